-- The worked stores are lawful states.
use Rattle.std.specs.Prelude.{◌^◌, ◌<◌, length, codes, IsTrue}
use Rattle.std.proofs.Common.{refl, sym, lit<, lit≤}
use Rattle.std.proofs.lemmas.List.Elements.{All-from_recursion}
use Rattle.sd_base.specs.Examples.{small_params, IsValid-small_params}
use Rattle.sd_base.specs.Names.{IsName, name_byte}
use Rattle.sd_base.specs.States.{StoredSession, IsCutting, IsLawful, bytes_of_session, sessions_in}
use Rattle.sd_base.specs.StoreExamples.{twice, once_dropped, zeros_cut, chunks_of-200_zeros}

pub letter_a : IsName (codes "a")
letter_a = record { not_empty = lit≤ tt; within_limit = lit≤ tt; first = refl; letters = All-from_recursion (λ c. IsTrue (name_byte c)) (codes "a") (refl, tt) }

letter_b : IsName (codes "b")
letter_b = record { not_empty = lit≤ tt; within_limit = lit≤ tt; first = refl; letters = All-from_recursion (λ c. IsTrue (name_byte c)) (codes "b") (refl, tt) }

zeros_are_cut : IsCutting (small_params 0) zeros_cut
zeros_are_cut = sym chunks_of-200_zeros

pub IsLawful-twice : IsLawful twice
IsLawful-twice = record {
  params = IsValid-small_params;
  generation = lit≤ tt;
  events = ((letter_a, refl), ((letter_b, refl), tt));
  cut = All-from_recursion (λ (session : StoredSession). IsCutting (small_params 0) session.chunks) (sessions_in twice) (zeros_are_cut, (zeros_are_cut, tt));
  bytes = All-from_recursion (λ (session : StoredSession). length (bytes_of_session session) < 2 ^ 32) (sessions_in twice) (lit< tt, (lit< tt, tt));
  sessions = lit≤ tt;
  places = lit≤ tt;
  chunks = lit≤ tt;
}

pub IsLawful-once_dropped : IsLawful once_dropped
IsLawful-once_dropped = record {
  params = IsValid-small_params;
  generation = lit≤ tt;
  events = ((letter_a, refl), ((letter_b, refl), (refl, tt)));
  cut = All-from_recursion (λ (session : StoredSession). IsCutting (small_params 0) session.chunks) (sessions_in once_dropped) (zeros_are_cut, (zeros_are_cut, tt));
  bytes = All-from_recursion (λ (session : StoredSession). length (bytes_of_session session) < 2 ^ 32) (sessions_in once_dropped) (lit< tt, (lit< tt, tt));
  sessions = lit≤ tt;
  places = lit≤ tt;
  chunks = lit≤ tt;
}
