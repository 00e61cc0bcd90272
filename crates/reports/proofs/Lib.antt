pub mod Counting
pub mod NearLaws
pub mod RuleLaws
pub mod Readings
pub mod FlagLaws
pub mod FaultLaws
pub mod ReadLaws
