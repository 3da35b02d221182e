use Rattle.std.proofs.Common.{◌≡◌, ◌∙◌, ℕ, ◌+◌, ◌<◌, ◌++◌, [], ap, drop, length, slice_index_or, arith}
use Rattle.std.proofs.lemmas.List.{get_or-take, get_or_append_left}
use Rattle.chunk_names.proofs.Chunks.{names_in_order}
use Rattle.chunk_names.specs.Shares.{chunk_at}
use Rattle.chunk_names.proofs.naming.name_all.Goals as goal

pub returns : goal.returns
returns g c =
    let name_of = g.N.Namer.name_of in
    let text = c.args.text.now in
    let start = c.args.start in
    let ends = c.args.ends.now in
    let names = c.truncate.new.self.items in
    let named = c.name_by_shares.new.names in
    let places = c.in_ok-names.names in
    let rest = drop (length named) places.items in
    let enough = c.share_of-share.ensures.enough in
    let same : length names ≡ length ends = omega (arith, c.truncate.ensures.len, c.in_ok-names.ensures.len, enough) in
    let each : (i : ℕ) → i < length ends → slice_index_or names i [] ≡ name_of (chunk_at text start ends i) =
    λ i inside.
    let known : i < length named =
    omega (arith, inside, c.name_by_shares.ensures.len, c.as_mut_slice.ensures.len, c.in_ok-names.ensures.len, enough) in
    let here : 0 + i ≡ i = omega arith in
    c.truncate.ensures.by_index i [] inside
    ∙ get_or-take places.len (named ++ rest) i [] (omega (arith, inside, c.in_ok-names.ensures.len, enough))
    ∙ get_or_append_left named rest [] i known
    ∙ c.name_by_shares.ensures.names i [] known (omega (arith, inside))
    ∙ ap (λ k. name_of (chunk_at text start ends k)) here
    in
    record { names = names_in_order name_of text start ends names same each }
