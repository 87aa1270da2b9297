-- Short command lines, word by word.
use Rattle.std.proofs.Common.{◌≡◌, ◌∙◌, ℕ, List, [], ◌∷◌, false, refl, ap, ap₂, codes}
use Rattle.std.specs.Prelude.{Option, Some, None, is_some, bytes_eq, if◌then◌else◌}
use Rattle.std.specs.Option.{option_map_or}
use Rattle.clap.specs.Lexer.{long_of, short_of}
use Rattle.std.specs.Str.Parse.{starts_with_minus}
use Rattle.clap.specs.Walk.{Held, Rule, Step, Text, Walk, after_step, arg_by_index, finished, idle, long_or_other, nothing_held, settled, short_or_plain, to_positional, trailing, value, walk, walk_from, walked, word_met}
use Rattle.clap.specs.Simple.{Shape, built, entered}
use Rattle.clap.specs.Kinds.{Kinds, or_else}
use Rattle.clap.specs.Faults.{bundle_fault, check_fault, defaults_fault, entered_fault, flag_word_fault, settle_fault, step_fault, turn_fault, walk_fault, word_fault}
use Rattle.clap.proofs.OnLiterals.{clap_on_literals}
use Rattle.command_words.specs.CommandLine.{Request, command_by, command_line, default_options, plain_check, plain_watch, plain_replay, request_by, request_in, request_of, without_fault}

-- between two words, where no option waits for its value
abbrev at : Held → ℕ → Walk
at h position = record { held = h; waiting = idle; position = position; is_trailing = false; stopped = None }

-- a word that does not begin with `-` is no option and not `--`
no_hyphens : (word : Text) → starts_with_minus word ≡ false → bytes_eq word (45 ∷ 45 ∷ []) ≡ false
no_hyphens [] e = refl
no_hyphens (b ∷ word) e = rw e refl

no_long : (word : Text) → starts_with_minus word ≡ false → long_of word ≡ None
no_long [] e = refl
no_long (b ∷ word) e = rw e refl

no_short : (word : Text) → starts_with_minus word ≡ false → short_of word ≡ None
no_short [] e = refl
no_short (b ∷ word) e = rw e refl

-- it goes to the next positional
plain_met : (c : List Rule) (h : Held) (position : ℕ) (word : Text) → starts_with_minus word ≡ false → word_met c [] false idle position word h ≡ (h, value)
plain_met c h position word e =
    ap (λ t. if t then (h, trailing position) else long_or_other c idle word (long_of word) h) (no_hyphens word e)
    ∙ ap (λ o. long_or_other c idle word o h) (no_long word e) ∙ ap (λ o. short_or_plain c idle word o h) (no_short word e)

plain_word : (s : Shape) (h : Held) (word : Text) → starts_with_minus word ≡ false → word_fault s [] false idle word h ≡ []
plain_word s h word e =
    ap (λ t. if t then [] else flag_word_fault s.rules s.args_override_self (long_of word) word h) (no_hyphens word e)
    ∙ ap (λ o. flag_word_fault s.rules s.args_override_self o word h) (no_long word e)
    ∙ ap (λ o. option_map_or (λ flags. bundle_fault s.rules s.args_override_self flags h) o []) (no_short word e)

plain_walked : (c : List Rule) (h : Held) (position : ℕ) (word : Text) → starts_with_minus word ≡ false →
    walked c [] (at h position) word ≡ to_positional c (arg_by_index c position) word (at h position) h
unfolding walked
plain_walked c h position word e = ap (λ (met : Held × Step). after_step c word (at h position) met.0 met.1) (plain_met c h position word e)

plain_turn : (s : Shape) (h : Held) (position : ℕ) (word : Text) → starts_with_minus word ≡ false →
    turn_fault s [] (at h position) word ≡ step_fault s position h value
plain_turn s h position word e =
    ap₂ (λ (kinds : Kinds) (met : Held × Step). or_else kinds (step_fault s position met.0 met.1)) (plain_word s h word e) (plain_met s.rules h position word e)

-- what is asked for, by the faults of the walk over the words and where it ends
abbrev asked_by : Kinds → Walk → Option Request
asked_by kinds end =
    let form = built command_line in
    without_fault (or_else kinds (or_else (entered_fault form end.stopped) (or_else (settle_fault form.top.rules false end.held)
    (or_else (defaults_fault (settled form.top.rules end.held).rows form.top.rules)
    (check_fault form.top (finished form.top.rules end.held) (is_some (entered form end.stopped)))))))
    (request_in (finished form.top.rules end.held))

asked_by_walk : (words : List Text) →
    request_of words ≡ asked_by (walk_fault (built command_line).top [] (walk_from nothing_held) words) (walk (built command_line).top.rules [] nothing_held words)
asked_by_walk words = refl

-- ---- after a command's word

abbrev form : Shape
form = (built command_line).top

-- the walk after it
abbrev behind_command : Text → Walk
behind_command command = to_positional form.rules (arg_by_index form.rules 1) command (walk_from nothing_held) nothing_held

command_walk : (command : Text) → starts_with_minus command ≡ false → walked form.rules [] (walk_from nothing_held) command ≡ behind_command command
unfolding clap_on_literals
command_walk command d = plain_walked form.rules nothing_held 1 command d

command_turn : (command : Text) → starts_with_minus command ≡ false → turn_fault form [] (walk_from nothing_held) command ≡ []
unfolding clap_on_literals
command_turn command d = plain_turn form nothing_held 1 command d

-- the walk after one name more
abbrev behind_name : Text → Text → Walk
behind_name command name = to_positional form.rules (arg_by_index form.rules 2) name (behind_command command) (behind_command command).held

name_walk : (command name : Text) → starts_with_minus name ≡ false → walked form.rules [] (behind_command command) name ≡ behind_name command name
unfolding clap_on_literals
name_walk command name e = plain_walked form.rules (behind_command command).held 2 name e

name_turn : (command name : Text) → starts_with_minus name ≡ false → turn_fault form [] (behind_command command) name ≡ []
unfolding clap_on_literals
name_turn command name e = plain_turn form (behind_command command).held 2 name e

one_walk : (command name : Text) → starts_with_minus command ≡ false → starts_with_minus name ≡ false →
    walk form.rules [] nothing_held (command ∷ name ∷ []) ≡ behind_name command name
one_walk command name d e = ap (λ w. walked form.rules [] w name) (command_walk command d) ∙ name_walk command name e

one_fault : (command name : Text) → starts_with_minus command ≡ false → starts_with_minus name ≡ false →
    walk_fault form [] (walk_from nothing_held) (command ∷ name ∷ []) ≡ []
unfolding walk_fault
one_fault command name d e =
    ap₂ (λ (kinds : Kinds) (w : Walk). or_else kinds (or_else (turn_fault form [] w name) [])) (command_turn command d) (command_walk command d)
    ∙ ap (λ (kinds : Kinds). or_else kinds []) (name_turn command name e)

one_asked : (command name : Text) → asked_by [] (behind_name command name) ≡ request_by (command_by (Some command) (Some name) None) (Some default_options)
unfolding clap_on_literals
one_asked command name = refl

-- a command's word and a name ask for this command with no option given
one_name : (command name : Text) → starts_with_minus command ≡ false → starts_with_minus name ≡ false →
    request_of (command ∷ name ∷ []) ≡ request_by (command_by (Some command) (Some name) None) (Some default_options)
one_name command name d e =
    asked_by_walk (command ∷ name ∷ []) ∙ ap₂ asked_by (one_fault command name d e) (one_walk command name d e) ∙ one_asked command name

pub one_check : (name : Text) → starts_with_minus name ≡ false → request_of (codes "check" ∷ name ∷ []) ≡ Some (plain_check name)
unfolding clap_on_literals
one_check name e = one_name (codes "check") name refl e

pub one_watch : (name : Text) → starts_with_minus name ≡ false → request_of (codes "watch" ∷ name ∷ []) ≡ Some (plain_watch name)
unfolding clap_on_literals
one_watch name e = one_name (codes "watch") name refl e

-- ---- two names

-- the walk after the second
abbrev behind_two : Text → Text → Text → Walk
behind_two command name other = to_positional form.rules (arg_by_index form.rules 3) other (behind_name command name) (behind_name command name).held

two_walk : (command name other : Text) → starts_with_minus command ≡ false → starts_with_minus name ≡ false → starts_with_minus other ≡ false →
    walk form.rules [] nothing_held (command ∷ name ∷ other ∷ []) ≡ behind_two command name other
unfolding clap_on_literals
two_walk command name other d e f =
    ap (λ w. walked form.rules [] w other) (one_walk command name d e) ∙ plain_walked form.rules (behind_name command name).held 3 other f

two_fault : (command name other : Text) → starts_with_minus command ≡ false → starts_with_minus name ≡ false → starts_with_minus other ≡ false →
    walk_fault form [] (walk_from nothing_held) (command ∷ name ∷ other ∷ []) ≡ []
unfolding clap_on_literals
two_fault command name other d e f =
    ap₂ (λ (kinds : Kinds) (w : Walk). or_else kinds (or_else (turn_fault form [] w name) (or_else (turn_fault form [] (walked form.rules [] w name) other) [])))
    (command_turn command d) (command_walk command d)
    ∙ ap₂ (λ (kinds : Kinds) (w : Walk). or_else kinds (or_else (turn_fault form [] w other) [])) (name_turn command name e) (name_walk command name e)
    ∙ ap (λ (kinds : Kinds). or_else kinds []) (plain_turn form (behind_name command name).held 3 other f)

two_asked : (command name other : Text) → asked_by [] (behind_two command name other) ≡ request_by (command_by (Some command) (Some name) (Some other)) (Some default_options)
unfolding clap_on_literals
two_asked command name other = refl

two_names : (command name other : Text) → starts_with_minus command ≡ false → starts_with_minus name ≡ false → starts_with_minus other ≡ false →
    request_of (command ∷ name ∷ other ∷ []) ≡ request_by (command_by (Some command) (Some name) (Some other)) (Some default_options)
two_names command name other d e f =
    asked_by_walk (command ∷ name ∷ other ∷ []) ∙ ap₂ asked_by (two_fault command name other d e f) (two_walk command name other d e f)
    ∙ two_asked command name other

pub two_checks : (name other : Text) → starts_with_minus name ≡ false → starts_with_minus other ≡ false → request_of (codes "check" ∷ name ∷ other ∷ []) ≡ None
two_checks name other e f = two_names (codes "check") name other refl e f

pub two_watches : (name other : Text) → starts_with_minus name ≡ false → starts_with_minus other ≡ false → request_of (codes "watch" ∷ name ∷ other ∷ []) ≡ None
two_watches name other e f = two_names (codes "watch") name other refl e f

pub two_replay : (name log : Text) → starts_with_minus name ≡ false → starts_with_minus log ≡ false → request_of (codes "replay" ∷ name ∷ log ∷ []) ≡ Some (plain_replay name log)
unfolding clap_on_literals
two_replay name log e f = two_names (codes "replay") name log refl e f

pub one_no_replay : (name : Text) → starts_with_minus name ≡ false → request_of (codes "replay" ∷ name ∷ []) ≡ None
unfolding clap_on_literals
one_no_replay name e = one_name (codes "replay") name refl e
