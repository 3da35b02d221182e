-- `packing`, chunk by chunk: what fits, what opens a container, and that containers only grow
pub mod PackingLemmas
-- the spots that follow from the lengths, and the chunks that lie there
pub mod SpotLemmas
-- the containers are those of next fit, for some groups of the chunks
pub mod GroupLemmas
-- one more chunk: which container grows or opens, and at which offset
pub mod PushLemmas
-- one file under a cut and an append: what it begins with, keeps and ends with
pub mod ShelfLemmas
-- the containers of a packer, after an append and after a refusal
pub mod PackerLemmas
-- the sizes of containers, chunk by chunk
pub mod SizeLemmas
