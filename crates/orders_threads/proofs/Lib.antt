mod Tests
mod Steps
mod Runs
mod LedLaws
mod WantLaws
mod Explored
