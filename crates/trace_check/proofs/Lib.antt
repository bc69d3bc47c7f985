mod PlayLaws
mod AskLaws
mod LeadLaws
mod ToldLaws
mod CarryLaws
mod WakeLaws
