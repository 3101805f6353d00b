pub mod Parents
pub mod Refusals
pub mod Steps
pub use Rattle.pid_file.specs.Items
pub use Rattle.pid_file.specs.Labels
pub use Rattle.pid_file.specs.Printing
pub use Rattle.pid_file.specs.Steps.Whole
