-- What a fault of a source becomes when its whole input is read.
use Rattle.edge_traits.specs.declared.fault.EdgeFault.{EdgeFault}
use Rattle.edge_traits.specs.declared.fault.EdgeFault.TheVariants as edge
use Rattle.edge_traits.specs.declared.source_reader.ReadFault.{ReadFault}
use Rattle.edge_traits.specs.declared.source_reader.ReadFault.TheVariants as read

abbrev pub read_fault_of : EdgeFault → ReadFault
read_fault_of edge.Failed = read.SourceFault
read_fault_of edge.OutOfMemory = read.OutOfMemory
