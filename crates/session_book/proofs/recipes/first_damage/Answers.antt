use Rattle.std.proofs.Common.{arith, sym, ◌∙◌}
use Rattle.session_book.proofs.Flaws.{IsAt, count_more, count_within, front_len, flaw_found, flaw_none}
use Rattle.session_book.proofs.recipes.first_damage.Goals as goal

pub overflow_add-count : goal.overflow_add-count
overflow_add-count c =
    let session = c.index-sessions-k.result in
    let at : IsAt c.args.sessions.now c.args.chunks.now c.as_slice.result.now c.loop-k.count c.loop-k.k session = record { within = c.loop-k-test.true; equals = c.index-sessions-k.is; all = c.requires.chunks; fresh_is = c.as_slice.ensures; counted = c.loop-k.invariant.count } in
    omega (arith, count_within c.args.sessions.now c.args.chunks.now c.as_slice.result.now c.loop-k.count c.loop-k.k session at, c.requires.chunk_limit)

pub slice_bounds-flaw_place-end : goal.slice_bounds-flaw_place-end
slice_bounds-flaw_place-end c =
    let session = c.index-sessions-k.result in
    front_len c.args.sessions.now c.args.chunks.now c.as_slice.result.now c.loop-k.count c.loop-k.k session (record { within = c.loop-k-test.true; equals = c.index-sessions-k.is; all = c.requires.chunks; fresh_is = c.as_slice.ensures; counted = c.loop-k.invariant.count })

pub returns-in-Some : goal.returns-in-Some
returns-in-Some c =
    let session = c.index-sessions-k.result in
    flaw_found c.args.sessions.now c.args.chunks.now c.as_slice.result.now c.loop-k.count c.loop-k.k session c.in-Some.place _ (record { within = c.loop-k-test.true; equals = c.index-sessions-k.is; all = c.requires.chunks; fresh_is = c.as_slice.ensures; counted = c.loop-k.invariant.count }) (sym c.in-Some.is ∙ c.flaw_place.ensures) c.loop-k.invariant.so_far

pub loop-k-preserved : goal.loop-k-preserved
loop-k-preserved c =
    let session = c.index-sessions-k.result in
    let at : IsAt c.args.sessions.now c.args.chunks.now c.as_slice.result.now c.loop-k.count c.loop-k.k session = record { within = c.loop-k-test.true; equals = c.index-sessions-k.is; all = c.requires.chunks; fresh_is = c.as_slice.ensures; counted = c.loop-k.invariant.count } in
    record {
      count = count_more c.args.sessions.now c.args.chunks.now c.as_slice.result.now c.loop-k.count c.loop-k.k session at;
      so_far = flaw_none c.args.sessions.now c.args.chunks.now c.as_slice.result.now c.loop-k.count c.loop-k.k session _ at (sym c.in_default.is ∙ c.flaw_place.ensures) c.loop-k.invariant.so_far;
    }
