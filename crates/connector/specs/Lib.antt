pub mod Listened
pub mod Items
pub mod Connector
pub mod Statements
