pub mod Division
pub mod Linear
pub mod Tables
pub mod Window
