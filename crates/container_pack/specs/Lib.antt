pub mod Spots
pub mod Laws
pub mod Containers
pub mod Packer
pub mod Examples
