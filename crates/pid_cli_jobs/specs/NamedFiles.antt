-- A file of a database, under its names. A choice of this project.
use Rattle.pid_cli_jobs.specs.declared.named_file.NamedFile.{NamedFile}

-- the file itself, whose bytes and stops it has
abbrev pub bare_file : {D N : Type 0} → NamedFile D N → D
bare_file named = named.file
