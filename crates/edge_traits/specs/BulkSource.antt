-- What contracts know of a source of generated blocks.
use Rattle.std.specs.Prelude.{ℕ, List, ◌++◌, drop}
use Rattle.sd_base.specs.Generator.{blocks_from, bytes_after}
use Rattle.edge_traits.specs.declared.bulk_source.BulkSource.{BulkSource}

-- the bytes still to come: those of this block, and the blocks after it
abbrev pub bulk_left : BulkSource → List ℕ
bulk_left source =
    drop source.used (bytes_after source.state source.states_left)
    ++ blocks_from source.seed source.next_block source.blocks_left
