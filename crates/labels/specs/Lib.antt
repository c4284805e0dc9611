pub mod Kind
pub mod Inclusion
pub mod Makers
pub mod MakersLawful
pub mod Grades
pub mod GradesLawful
