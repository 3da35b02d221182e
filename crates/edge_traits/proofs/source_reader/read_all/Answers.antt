use Rattle.std.proofs.Common.{◌≡◌, ℕ, ◌+◌, ◌≤◌, ◌∙◌, List, Err, Ok, Option, IfSome, drop, length, option_map, take, ap, arith, rules, subst, sym}
use Rattle.std.proofs.lemmas.List.{length-take}
use Rattle.edge_traits.specs.ReadAll.{read_fault_of}
use Rattle.edge_traits.specs.Source.{Consumes}
use Rattle.edge_traits.specs.declared.source_reader.ReadFault.TheVariants.{OutOfMemory}
use Rattle.edge_traits.proofs.Refusals.{failed-is, long-not-failed, long-not-memory, memory-not-failed, memory-not-long, not-too-long, ok-not, passed-is, rose_later, same-error}
use Rattle.edge_traits.proofs.Streams.{all_few, all_taken, consumes_more, ends, gone, longer, lost}
use Rattle.edge_traits.proofs.source_reader.read_all.Goals as goal

pub loop-taken-preserved : goal.loop-taken-preserved
loop-taken-preserved g c = record {
  within = search rules;
  bounded = search rules;
  taken = consumes_more _ _ _ _ _ _ _ (c.read_after.ensures.kept ∙ c.make_room.ensures.kept) c.loop-taken.invariant.taken c.in_ok-count.ensures.given;
  never_falls = search rules;
  faultless_counts_none = search rules;
  stays_faultless = search rules;
}

pub returns-in_err-make_room : goal.returns-in_err-make_room
returns-in_err-make_room g c =
    let limit = c.args.limit in
    let now = c.loop-taken.invariant in
    let front = take c.loop-taken.taken c.loop-taken.buffer.items in
    let few : length front ≤ limit = omega (arith, length-take c.loop-taken.taken c.loop-taken.buffer.items, c.loop-taken-test.true) in
    let gave = passed-is OutOfMemory c.from_residual.result c.from_residual.ensures.1 in
    record {
      bytes = rw gave tt;
      at_end = rw gave tt;
      within_limit = rw gave tt;
      fits = rw gave tt;
      source_fault = λ is. absurd (memory-not-failed c.from_residual.result gave is);
      too_long = λ is. absurd (memory-not-long c.from_residual.result gave is);
      too_long_left = λ is. absurd (memory-not-long c.from_residual.result gave is);
      refused = rw gave (lost (limit + 1) _ _ front (omega (arith, few)) now.taken);
      source_fault_left = λ is. absurd (memory-not-failed c.from_residual.result gave is);
      out_of_memory_left = λ is. lost limit _ _ front few now.taken;
      never_falls = now.never_falls;
      faultless_serves = λ never is. memory-not-failed c.from_residual.result gave is;
      faultless_counts_none = now.faultless_counts_none;
      stays_faultless = now.stays_faultless;
    }

pub returns-in_err-count : goal.returns-in_err-count
returns-in_err-count g c =
    let limit = c.args.limit in
    let now = c.loop-taken.invariant in
    let call = c.read_after.ensures in
    let fault = c.in_err-count.field-0.0 in
    let left = g.R.Source.left c.args.source.now in
    let front = take c.loop-taken.taken c.loop-taken.buffer.items in
    let few : length front ≤ limit = omega (arith, length-take c.loop-taken.taken c.loop-taken.buffer.items, c.loop-taken-test.true) in
    let taken = subst (λ (o : Option (List ℕ)). Consumes left o front) (sym c.in_err-count.ensures.unchanged) now.taken in
    let gave = passed-is (read_fault_of fault) c.from_residual-in_err-count.result c.from_residual-in_err-count.ensures.1 in
    record {
      bytes = rw gave tt;
      at_end = rw gave tt;
      within_limit = rw gave tt;
      fits = rw gave tt;
      source_fault = λ is. rose_later _ _ _ now.never_falls
          (call.failed (c.in_err-count.was ∙ ap Err (failed-is fault (same-error c.from_residual-in_err-count.result gave is))));
      too_long = λ is. absurd (not-too-long fault (same-error c.from_residual-in_err-count.result gave is));
      too_long_left = λ is. absurd (not-too-long fault (same-error c.from_residual-in_err-count.result gave is));
      refused = rw gave (lost (limit + 1) _ _ front (omega (arith, few)) taken);
      source_fault_left = λ is. lost limit _ _ front few taken;
      out_of_memory_left = λ is. lost limit _ _ front few taken;
      never_falls = omega (arith, now.never_falls, call.never_falls);
      faultless_serves = λ never is. call.faultless_serves (now.stays_faultless never)
          (c.in_err-count.was ∙ ap Err (failed-is fault (same-error c.from_residual-in_err-count.result gave is)));
      faultless_counts_none = λ never. call.faultless_counts_none (now.stays_faultless never) ∙ now.faultless_counts_none never;
      stays_faultless = λ never. call.stays_faultless (now.stays_faultless never);
    }

pub returns-then-count-eq0 : goal.returns-then-count-eq0
returns-then-count-eq0 g c =
    let limit = c.args.limit in
    let now = c.loop-taken.invariant in
    let call = c.read_after.ensures in
    let none = c.if-count-eq0.true in
    let left = g.R.Source.left c.args.source.now in
    let mid = g.R.Source.left c.loop-taken.source in
    let after = g.R.Source.left c.read_after.new.source in
    let front = take c.loop-taken.taken c.loop-taken.buffer.items in
    let few : length front ≤ limit = omega (arith, length-take c.loop-taken.taken c.loop-taken.buffer.items, c.loop-taken-test.true) in
    let whole : c.truncate.new.self.items ≡ front = c.truncate.ensures.items ∙ call.kept ∙ c.make_room.ensures.kept in
    let ended = call.at_end (c.in_ok-count.was ∙ ap Ok none) in
    let all = all_taken left mid front ended now.taken in
    let nothing = subst (λ (k : ℕ). Consumes mid after (take k (drop c.loop-taken.taken c.read_after.new.buffer.items))) none
    c.in_ok-count.ensures.given in
    record {
      bytes = subst (λ (l : List ℕ). IfSome left (λ bytes. l ≡ bytes)) (sym whole) all;
      at_end = ends left mid after front ended now.taken nothing;
      within_limit = omega (arith, few, ap length whole, c.truncate.new.self.ok);
      fits = all_few limit left front few all;
      source_fault = λ is. absurd (ok-not is);
      too_long = λ is. absurd (ok-not is);
      too_long_left = λ is. absurd (ok-not is);
      refused = tt;
      source_fault_left = λ is. absurd (ok-not is);
      out_of_memory_left = λ is. absurd (ok-not is);
      never_falls = omega (arith, now.never_falls, call.never_falls);
      faultless_serves = λ never is. ok-not is;
      faultless_counts_none = λ never. call.faultless_counts_none (now.stays_faultless never) ∙ now.faultless_counts_none never;
      stays_faultless = λ never. call.stays_faultless (now.stays_faultless never);
    }

pub returns : goal.returns
returns g c =
    let limit = c.args.limit in
    let now = c.loop-taken.invariant in
    let left = g.R.Source.left c.args.source.now in
    let after = g.R.Source.left c.loop-taken.source in
    let front = take c.loop-taken.taken c.loop-taken.buffer.items in
    let full : length front ≡ limit + 1 = omega (
      arith,
      length-take c.loop-taken.taken c.loop-taken.buffer.items,
      c.loop-taken-test.false,
      now.within,
      now.bounded,
      c.loop-taken.buffer.ok,
    ) in
    record {
      bytes = tt;
      at_end = tt;
      within_limit = tt;
      fits = tt;
      source_fault = λ is. absurd (long-not-failed is);
      too_long = λ is. longer limit left after front (omega (arith, full)) now.taken;
      too_long_left = λ is. subst (λ (n : ℕ). after ≡ option_map (λ bytes. drop n bytes) left) full (gone left after front now.taken);
      refused = lost (limit + 1) left after front (omega (arith, full)) now.taken;
      source_fault_left = λ is. absurd (long-not-failed is);
      out_of_memory_left = λ is. absurd (long-not-memory is);
      never_falls = now.never_falls;
      faultless_serves = λ never is. long-not-failed is;
      faultless_counts_none = now.faultless_counts_none;
      stays_faultless = now.stays_faultless;
    }
