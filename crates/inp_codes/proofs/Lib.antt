pub mod ByNameLemmas
pub mod ByNumberLemmas
pub mod CodeNamesLemmas
pub mod Computation
pub mod LawLemmas
pub mod TableLemmas
