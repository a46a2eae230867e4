pub mod Dealt
pub mod Items
pub mod Kinds
pub mod Unions
