pub mod Same
pub mod ScheduleLines
pub mod Laws
