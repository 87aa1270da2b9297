-- The fault that a reader of a model's text tells.
use Rattle.std.specs.Prelude.{◌≡◌, ◌⊎◌, Option, Some, None}
use Rattle.lang_specs.specs.FirstFault.{SyntaxAt, LimitAt}
use Rattle.model_specs.specs.Faults as faults
use Rattle.text_specs.specs.ModelTexts.{TextFault, TooLong, Misspelt, Unsound}
use Rattle.lang_texts.specs.declared.texts.LangFault.{LangFault}
use Rattle.lang_texts.specs.declared.texts.LangFault.TheVariants as lang
use Rattle.lha_check.specs.declared.faults.CheckFault.{CheckFault}
use Rattle.lha_check.specs.declared.faults.CheckFault.TheVariants as check
use Rattle.model_reader.specs.declared.faults.ModelFault.{ModelFault}
use Rattle.model_reader.specs.declared.faults.ModelFault.TheVariants.{Long, Syntax, Limit, UnknownName, RepeatedName, MissingSlope, EmptyBox, Passes, Memory}

-- what is told of the text; nothing where there was no memory
abbrev pub told_of : ModelFault → Option TextFault
told_of Long = Some TooLong
told_of (Syntax line column) = Some (Misspelt (SyntaxAt line column))
told_of (Limit line which) = Some (Misspelt (LimitAt line which))
told_of (UnknownName line name) = Some (Unsound (faults.UnknownName line name))
told_of (RepeatedName line name) = Some (Unsound (faults.RepeatedName line name))
told_of (MissingSlope line name) = Some (Unsound (faults.MissingSlope line name))
told_of (EmptyBox line name) = Some (Unsound (faults.EmptyBox line name))
told_of (Passes line name) = Some (Unsound (faults.Passes line name))
told_of Memory = None

-- there was no memory
abbrev pub IsMemory : ModelFault → Type 0
IsMemory told = told_of told ≡ None

-- this fault is told, unless there was no memory
abbrev pub Tells : TextFault → ModelFault → Type 0
Tells fault told = (told_of told ≡ Some fault) ⊎ IsMemory told

-- ---- faults of the layers below

-- a fault of the spelling
abbrev pub of_spelling : LangFault → ModelFault
of_spelling (lang.Syntax line column) = Syntax line column
of_spelling (lang.Limit line which) = Limit line which
of_spelling lang.Memory = Memory

-- a fault of the trees
abbrev pub of_trees : CheckFault → ModelFault
of_trees (check.UnknownName line name) = UnknownName line name
of_trees (check.RepeatedName line name) = RepeatedName line name
of_trees (check.MissingSlope line name) = MissingSlope line name
of_trees (check.EmptyBox line name) = EmptyBox line name
of_trees (check.Passes line name) = Passes line name
of_trees check.Memory = Memory
