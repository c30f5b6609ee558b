pub mod AddressLemmas
pub mod Equality
pub mod OrderLemmas
pub mod PrefixOrderLemmas
pub mod SpanLemmas
pub mod SpanSteps
pub mod RunLemmas
mod RunSearch
mod DayLemmas
pub mod DigitsLemmas
mod NameLemmas
pub mod PrefixTextLemmas
pub mod PrefixGroupsLemmas
pub mod PrefixSpellingLemmas
pub mod Vocabulary
