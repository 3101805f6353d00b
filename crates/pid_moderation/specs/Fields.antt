-- Fields of commands are the fields of a form: pairs of a name and a value.
pub use Rattle.pid_form.specs.FormFields.{bytes_of as texts_of}
pub use Rattle.pid_form.specs.Fields.{Fields, times, is_once, is_one_of, value, text_at}
