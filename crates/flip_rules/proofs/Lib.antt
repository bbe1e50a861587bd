pub mod ExchangeLaws
pub mod FlippedList
pub mod SubdivisionLaws
pub mod TallyLaws
