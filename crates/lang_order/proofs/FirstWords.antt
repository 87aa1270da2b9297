-- The words that lines begin with.
use Rattle.std.proofs.Common.{◌≡◌, Bool, true, false, if◌then◌else◌, List, [], ◌∷◌, Some, refl, sym, ap, ◌∙◌}
use Rattle.lang_specs.specs.declared.Which.{Which}
use Rattle.lang_specs.specs.declared.Which.TheVariants.{NameBytes, Digits}
use Rattle.lang_specs.specs.declared.Kind.{Kind}
use Rattle.lang_specs.specs.declared.Kind.TheVariants as kinds
use Rattle.lang_specs.specs.Marks.{Mark, mark, has_text, the}
use Rattle.lang_specs.specs.Tokens.{Placed}
use Rattle.lang_specs.specs.FirstFault.{is_joint}
use Rattle.lang_specs.proofs.SplitLemmas.{apart}
use Rattle.lang_order.specs.declared.Place.{Place}
use Rattle.lang_order.specs.declared.Place.TheVariants as places
use Rattle.lang_order.specs.Statements.{Statement, Version, first_word}
use Rattle.lang_order.specs.Order.{next}
use Rattle.lang_order.specs.LineLimits.{line_keeps}
use Rattle.lang_order.proofs.ToGrammar.{none_some}

is_word : Kind → Bool
is_word kinds.Lha = true
is_word kinds.Automaton = true
is_word kinds.Var = true
is_word kinds.Obs = true
is_word kinds.Loc = true
is_word kinds.Init = true
is_word kinds.Inv = true
is_word kinds.Flow = true
is_word kinds.Also = true
is_word kinds.Trans = true
is_word kinds.End = true
is_word k = false

word_of : (p q : Place) (k : Kind) → next p k ≡ Some q → is_word k ≡ true
unfolding is_word
word_of places.Start q kinds.Lha e = refl
word_of places.Lha q kinds.Automaton e = refl
word_of places.Automaton q kinds.Var e = refl
word_of places.Var q kinds.Obs e = refl
word_of places.Var q kinds.Loc e = refl
word_of places.Obs q kinds.Loc e = refl
word_of places.Loc q kinds.Init e = refl
word_of places.Loc q kinds.Inv e = refl
word_of places.Loc q kinds.Flow e = refl
word_of places.Init q kinds.Inv e = refl
word_of places.Init q kinds.Flow e = refl
word_of places.Inv q kinds.Flow e = refl
word_of places.Flow q kinds.Also e = refl
word_of places.Flow q kinds.Loc e = refl
word_of places.Flow q kinds.Trans e = refl
word_of places.Flow q kinds.End e = refl
word_of places.Also q kinds.Loc e = refl
word_of places.Also q kinds.Trans e = refl
word_of places.Also q kinds.End e = refl
word_of places.Trans q kinds.Trans e = refl
word_of places.Trans q kinds.End e = refl
word_of places.End q kinds.Automaton e = refl
word_of p q k e = none_some q e

word_no_joint : (k : Kind) → is_word k ≡ true → is_joint k ≡ false
unfolding is_word
word_no_joint kinds.Comma h = apart (sym h)
word_no_joint kinds.Plus h = apart (sym h)
word_no_joint kinds.Minus h = apart (sym h)
word_no_joint k h = refl

-- a word that may stand at a place joins nothing
pub next_no_joint : (p q : Place) (k : Kind) → next p k ≡ Some q → is_joint k ≡ false
next_no_joint p q k e = word_no_joint k (word_of p q k e)

-- a word that may stand at a place is not the end of the text
pub next_no_end : (p q : Place) (k : Kind) → next p k ≡ Some q → k ≡ kinds.EndText → ⊥
unfolding is_word
next_no_end p q k e f = apart (sym (word_of p q k e) ∙ ap is_word f)

word_no_text : (k : Kind) → is_word k ≡ true → has_text k ≡ false
unfolding is_word
word_no_text kinds.Name h = apart (sym h)
word_no_text kinds.Number h = apart (sym h)
word_no_text k h = refl

-- what the token of such a word says
pub word_mark : (p q : Place) (t : Placed) → next p t.kind ≡ Some q → mark t ≡ the t.kind
word_mark p q t e =
    ap (λ z. record { kind = t.kind; text = if z then t.text else [] }) (word_no_text t.kind (word_of p q t.kind e))

-- the first word passes no limit
pub word_keeps : (w : Which) (body : List Mark) (s : Statement) → line_keeps w (the (first_word s) ∷ body) s ≡ line_keeps w body s
word_keeps NameBytes body (Version v) = refl
word_keeps NameBytes body s = refl
word_keeps Digits body (Version v) = refl
word_keeps Digits body s = refl
word_keeps w body s = refl
