use Rattle.std.proofs.Common.{◌≡◌, ◌++◌, length, take}
use Rattle.store_core.specs.NameIndex.{Covers}
use Rattle.store_core.specs.StoreFields.{names_of}
use Rattle.store_core.proofs.chunk_list.add_names.Given as goal

abbrev pub invariant-loop-number : goal.invariant-loop-number
invariant-loop-number l = record {
  count : l.count ≡ length (l.committed ++ l.offered);
  number : l.index.chunks ≡ l.number;
  covers : Covers l.index (take l.index.chunks (names_of (l.committed ++ l.offered)));
}
