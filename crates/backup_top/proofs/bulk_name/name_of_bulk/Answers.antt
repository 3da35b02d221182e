use Rattle.std.proofs.Common.{◌∙◌}
use Rattle.backup_top.proofs.BulkNames.{read_as_name, spelled, value_read}
use Rattle.backup_top.proofs.bulk_name.name_of_bulk.Goals as goal

pub unwrap-requires : goal.unwrap-requires
unwrap-requires c =
    read_as_name c.args.seed c.args.blocks _ c.read.result c.ranges.seed.fits c.requires
    (spelled c.args.seed c.args.blocks _ _ _ _ _ _ c.append-len.ensures.bytes
    (c.as_bytes.ensures.value ∙ c.format.ensures.text) c.append-len-2.ensures.bytes c.append-len-3.ensures.bytes
    (c.as_bytes-2.ensures.value ∙ c.format-2.ensures.text) c.append-len-4.ensures.bytes)
    c.read.ensures.refused

pub returns : goal.returns
returns c =
    value_read c.read.result _ _ c.unwrap.ensures c.read.ensures.made
    ∙ spelled c.args.seed c.args.blocks _ _ _ _ _ _ c.append-len.ensures.bytes
    (c.as_bytes.ensures.value ∙ c.format.ensures.text) c.append-len-2.ensures.bytes c.append-len-3.ensures.bytes
    (c.as_bytes-2.ensures.value ∙ c.format-2.ensures.text) c.append-len-4.ensures.bytes
