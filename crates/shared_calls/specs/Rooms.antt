-- room as shared_looks has it, for crates above
pub use Rattle.shared_looks.specs.Rooms.{drain_entries, with_more_room}
