pub mod ByName
pub mod ByNumber
pub mod CodeNames
pub mod KindNames
pub mod Table
