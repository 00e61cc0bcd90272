-- The laws of building and of the round trip, for this crate and those above.
pub mod PlanLaws
pub mod BuildLaws
pub mod RuleLaws
pub mod RangeLaws
pub mod BuiltLaws
pub mod OutputLaws
pub mod ReadBackLaws
pub mod RoundTripLaws
pub mod JoinLaws
pub mod RebuildLaws
