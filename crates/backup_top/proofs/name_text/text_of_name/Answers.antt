use Rattle.backup_top.proofs.AsciiNames.{name_is_utf8, read_as_text}
use Rattle.backup_top.proofs.name_text.text_of_name.Goals as goal

pub unwrap-requires : goal.unwrap-requires
unwrap-requires c =
    read_as_text c.as_bytes.result.now _ _ c.from_utf8.result c.from_utf8.ensures.cases
    (name_is_utf8 c.as_bytes.result.now c.as_bytes.ensures.lawful)
