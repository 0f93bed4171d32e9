-- Internal: screens are data.
use Rattle.std.specs.Prelude.{refl}
use Rattle.std.specs.Coded.{Coded, code_by, coded×}
use Rattle.lang_ast.specs.declared.program.Program.{Program}
use Rattle.recomposer.specs.declared.composition.Composition.{Composition}
use Rattle.compose_app.specs.Screens.{ScreenParts, screen_parts}

-- A screen is stored as the tuple of its parts.
abbrev pub screen_code : {V A : Type 0} → Coded Program → Coded Composition → Coded V → Coded A
    → Coded (ScreenParts V A)
screen_code {V} {A} program composition world applier =
    code_by (Program × (Composition × (V × A))) (coded× program (coded× composition (coded× world applier)))
    (λ s. (s.program, (s.composition, (s.world, s.applier))))
    (λ t. screen_parts t.0 t.1.0 t.1.1.0 t.1.1.1) (λ _. refl)
