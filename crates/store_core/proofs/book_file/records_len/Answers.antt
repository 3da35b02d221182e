use Rattle.std.proofs.Common.{rules, ◌≡◌, arith, subst}
use Rattle.std.specs.Prelude.{IfSome, Option, ℕ}
use Rattle.edge_traits.specs.Shelf.{content}
use Rattle.store_core.specs.BookFiles.{stated_record}
use Rattle.std.specs.Prelude.{drop}
use Rattle.store_core.proofs.BookFiles.{ends, goes_on, stops_few, stops_fewer}
use Rattle.store_core.proofs.book_file.records_len.Goals as goal

pub returns-in_default-clause-whole : goal.returns-in_default-clause-whole
returns-in_default-clause-whole g c =
    let told = content (g.F.Shelf.files c.args.shelf.now) c.args.file in
    let now = content (g.F.Shelf.files c.loop.shelf) c.args.file in
    stops_fewer c.args.records c.loop.counter c.loop.end c.in_ok-size.size told now c.in-Some.length
    (c.loop.invariant.reads.same_files c.args.file) c.loop.invariant.so_far c.loop.invariant.size c.loop.invariant.within
    (omega (arith, c.if-length-size.false))
    (subst (λ (o : Option ℕ). IfSome now (λ bytes. o ≡ stated_record (drop c.loop.end bytes))) c.in-Some.is c.in_ok-length.ensures.stated)

pub returns-in_default-2-clause-whole : goal.returns-in_default-2-clause-whole
returns-in_default-2-clause-whole g c =
    let told = content (g.F.Shelf.files c.args.shelf.now) c.args.file in
    let now = content (g.F.Shelf.files c.loop.shelf) c.args.file in
    stops_few c.args.records c.loop.counter c.loop.end c.in_ok-size.size told now
    (c.loop.invariant.reads.same_files c.args.file) c.loop.invariant.so_far
    (subst (λ (o : Option ℕ). IfSome now (λ bytes. o ≡ stated_record (drop c.loop.end bytes))) c.in_default.is c.in_ok-length.ensures.stated)

pub loop-preserved : goal.loop-preserved
loop-preserved g c = record {
  within = omega (arith, c.if-length-size.true, c.loop.invariant.within);
  reads = search rules;
  size = c.loop.invariant.size;
  so_far =
      let told = content (g.F.Shelf.files c.args.shelf.now) c.args.file in
      let now = content (g.F.Shelf.files c.loop.shelf) c.args.file in
      goes_on c.args.records c.loop.counter c.loop.end c.in_ok-size.size told now c.in-Some.length
      (c.loop.invariant.reads.same_files c.args.file) c.loop.invariant.so_far c.loop.invariant.size c.loop.invariant.within
      (omega (arith, c.if-length-size.true, c.loop.invariant.within)) c.loop-test.true
      (subst (λ (o : Option ℕ). IfSome now (λ bytes. o ≡ stated_record (drop c.loop.end bytes))) c.in-Some.is c.in_ok-length.ensures.stated);
}

pub returns-clause-whole : goal.returns-clause-whole
returns-clause-whole g c =
    ends c.args.records c.loop.counter c.loop.end c.in_ok-size.size (content (g.F.Shelf.files c.args.shelf.now) c.args.file)
    c.loop.invariant.so_far (omega (arith, c.loop-test.false))
