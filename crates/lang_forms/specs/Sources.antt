-- Trusted: the content of a source text, that is a program and its script.
use Rattle.std.specs.Prelude.{List}
use Rattle.lang_ast.specs.Programs.{Program, program_view}
use Rattle.lang_ast.specs.declared.program.Program as declared
use Rattle.lang_ast.specs.declared.script.DoForm.{DoForm}
use Rattle.lang_ast.specs.declared.script.Rest.{Rest}

pub record Source : Type 0 where
  pub program : Program
  pub script : List DoForm

abbrev pub parsed_source_view : declared.Program × Rest → Source
parsed_source_view r = record { program = program_view r.0; script = r.1.forms.items }
