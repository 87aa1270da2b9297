-- What the answer of clap says of the words.
use Rattle.std.proofs.Common.{◌≡◌, ◌∙◌, List, [], ◌∷◌, true, refl, sym, ap, subst, inl, inr}
use Rattle.std.specs.Prelude.{Option, Some, None, Result, Ok, Err, IfOk, IfErr, MatchResult, option_map}
use Rattle.std.specs.Option.{ok_or}
use Rattle.std.specs.Result.{IsErrAnd}
use Rattle.clap.specs.Words.{App, HasMatchesOf, HasKind, IsAmong, Kinds, Text, fault_of, found_of, is_simple, is_simple_and_free, kind_of, matches_of, rows_of}
use Rattle.clap.specs.declared.error.Error.{Error}
use Rattle.clap.specs.declared.error.kind.ErrorKind.{ErrorKind}
use Rattle.clap.specs.declared.parser.matches.ArgMatches.{ArgMatches}
use Rattle.clap.proofs.OnLiterals.{clap_on_literals}
use Rattle.command_words.specs.declared.fault.WordsFault.{WordsFault}
use Rattle.command_words.specs.declared.fault.WordsFault.TheVariants.{Refused, Memory}
use Rattle.command_words.specs.declared.request.Request.{Request as GivenRequest}
use Rattle.command_words.specs.CommandLine.{Request, command_line, request_in, request_of, without_fault}
use Rattle.command_words.specs.Faults.{fault_by}
use Rattle.command_words.specs.Said.{said}

-- clap's specification tells what the form takes
line_is_simple : is_simple command_line ≡ true
unfolding clap_on_literals
line_is_simple = refl

line_is_free : is_simple_and_free command_line ≡ true
unfolding clap_on_literals
line_is_free = refl

-- what is asked for, by the faults of the words
abbrev by_faults : List Text → Kinds → Option Request
by_faults words kinds = without_fault kinds (request_in (matches_of command_line words))

none_among : (words : List Text) (k : ErrorKind) (kinds : Kinds) → IsAmong k kinds → by_faults words kinds ≡ None
none_among words k [] h = absurd h
none_among words k (x ∷ kinds) h = refl

module _ (a : App) (words : List Text) (is : a ≡ command_line) where
  -- words that clap takes have the form, and its matches are their values
  pub words_taken : (m : ArgMatches) → HasMatchesOf a words m → (is_simple_and_free a ≡ true → fault_of a words ≡ []) →
      request_in (rows_of (found_of m)) ≡ request_of words
  words_taken m h k =
      let found = (subst (λ (x : App). HasMatchesOf x words m) is h line_is_simple).0 in
      let none = subst (λ (x : App). is_simple_and_free x ≡ true → fault_of x words ≡ []) is k line_is_free in
      ap request_in found ∙ sym (ap (by_faults words) none)

  -- words that clap refuses for another cause than memory are not of the form
  pub words_refused : (e : Error) → (is_simple_and_free a ≡ true → HasKind (fault_of a words) e) → Refused ≡ fault_by (kind_of e) → request_of words ≡ None
  words_refused e k other = elim (subst (λ (x : App). is_simple_and_free x ≡ true → HasKind (fault_of x words) e) is k line_is_free) [
    | inl memory ↦ let no : Refused ≡ Memory = other ∙ ap fault_by memory in cc
    | inr among ↦ none_among words (kind_of e) (fault_of command_line words) among
  ]

-- ---- the clauses of an answer, by what is asked for

pub given : (o : Option Request) (r : Option GivenRequest) → option_map said r ≡ o → IfOk (ok_or r Refused) (λ x. o ≡ Some (said x))
given o None e = tt
given o (Some x) e = sym e

pub refused : (o : Option Request) (r : Option GivenRequest) → option_map said r ≡ o → IfErr (ok_or r Refused) (λ e. e ≡ Refused → o ≡ None)
refused o None e = λ _. sym e
refused o (Some x) e = tt

-- the same after an error of clap
pub given_error : (o : Option Request) (r : Result GivenRequest WordsFault) (f : WordsFault) → IsErrAnd r (λ e. e ≡ f) → IfOk r (λ x. o ≡ Some (said x))
given_error o (Ok x) f h = absurd h
given_error o (Err e) f h = tt

pub refused_error : (o : Option Request) (r : Result GivenRequest WordsFault) (f : WordsFault) → IsErrAnd r (λ e. e ≡ f) → (Refused ≡ f → o ≡ None) →
    IfErr r (λ e. e ≡ Refused → o ≡ None)
refused_error o (Ok x) f h none = tt
refused_error o (Err e) f h none = λ is. none (sym is ∙ h)

-- an answer that is right is the one that is asked for
pub found : (o : Option Request) (r : Result GivenRequest WordsFault) → IfOk r (λ x. o ≡ Some (said x)) → IfErr r (λ e. e ≡ Refused → o ≡ None) →
    (asked : Request) → o ≡ Some asked → MatchResult r (λ x. said x ≡ asked) (λ e. e ≡ Memory)
found o (Ok x) h k asked is = cc
found o (Err Refused) h k asked is = let none = k refl in cc
found o (Err Memory) h k asked is = refl
