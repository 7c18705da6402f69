pub mod Gate
pub mod NoteGate
pub mod TableGate
