-- One more line behind lines that were read, the first line too.
use Rattle.std.proofs.Common.{◌≡◌, ◌⊎◌, inl, inr, ℕ, Bool, false, List, [], ◌∷◌, ◌++◌, Some, refl, sym, ap, ◌∙◌, subst}
use Rattle.std.specs.Prelude.{IsTrue}
use Rattle.lang_specs.specs.declared.Which.{Which}
use Rattle.lang_specs.specs.declared.Kind.{Kind}
use Rattle.lang_specs.specs.declared.Kind.TheVariants as kinds
use Rattle.lang_specs.specs.Tokens.{Placed}
use Rattle.lang_specs.specs.Marks.{Mark, mark, the, Lined, lined}
use Rattle.lang_order.specs.declared.Place.{Place}
use Rattle.lang_order.specs.declared.Place.TheVariants as places
use Rattle.lang_order.specs.Statements.{Statement, Version, first_word, IsBody, Numbered, second_if, is_second}
use Rattle.lang_order.specs.Order.{next, Leads}
use Rattle.lang_order.specs.LineLimits.{Counts, line_keeps, none_yet, count, counts_from, are_few, StayFew}
use Rattle.lang_order.specs.Beginnings.{in_line}
use Rattle.lang_order.specs.FaultsByLines.{IsReadLine, AreReadLines, marks, StandIn}
use Rattle.lang_order.proofs.ToGrammar.{none_some}
use Rattle.lang_order.proofs.Kept.{few_none}
use Rattle.lang_order.proofs.FirstWords.{word_mark, word_keeps}
use Rattle.lang_order.proofs.ReadLines.{first_read, more_read}
use Rattle.lang_lines.specs.Lines.{begins_statement, IsRead}
use Rattle.lang_texts.specs.Reading.{version_behind}

-- ---- what the order of lines leaves

-- no line leads back to where none was read
not_back : (p : Place) (k : Kind) → next p k ≡ Some places.Start → ⊥
not_back places.Start kinds.Lha e = cc
not_back places.Lha kinds.Automaton e = cc
not_back places.Automaton kinds.Var e = cc
not_back places.Var kinds.Obs e = cc
not_back places.Var kinds.Loc e = cc
not_back places.Obs kinds.Loc e = cc
not_back places.Loc kinds.Init e = cc
not_back places.Loc kinds.Inv e = cc
not_back places.Loc kinds.Flow e = cc
not_back places.Init kinds.Inv e = cc
not_back places.Init kinds.Flow e = cc
not_back places.Inv kinds.Flow e = cc
not_back places.Flow kinds.Also e = cc
not_back places.Flow kinds.Loc e = cc
not_back places.Flow kinds.Trans e = cc
not_back places.Flow kinds.End e = cc
not_back places.Also kinds.Loc e = cc
not_back places.Also kinds.Trans e = cc
not_back places.Also kinds.End e = cc
not_back places.Trans kinds.Trans e = cc
not_back places.Trans kinds.End e = cc
not_back places.End kinds.Automaton e = cc
not_back p k e = none_some places.Start e

some_before : (p : Place) (s : Numbered) (ss : List Numbered) → Leads p (s ∷ ss) places.Start → ⊥
some_before p s [] (r, e, f) = not_back p (first_word s.says) (subst (λ z. next p (first_word s.says) ≡ Some z) f e)
some_before p s (t ∷ ss) (r, e, h) = some_before r t ss h

first_is_lha : (q : Place) (k : Kind) → next places.Start k ≡ Some q → k ≡ kinds.Lha
first_is_lha q kinds.Lha e = refl
first_is_lha q k e = none_some q e

-- a line may begin with the words of statements alone
pub next_begins : (p q : Place) (k : Kind) → next p k ≡ Some q → IsTrue (begins_statement k)
next_begins places.Start q kinds.Lha e = refl
next_begins places.Lha q kinds.Automaton e = refl
next_begins places.Automaton q kinds.Var e = refl
next_begins places.Var q kinds.Obs e = refl
next_begins places.Var q kinds.Loc e = refl
next_begins places.Obs q kinds.Loc e = refl
next_begins places.Loc q kinds.Init e = refl
next_begins places.Loc q kinds.Inv e = refl
next_begins places.Loc q kinds.Flow e = refl
next_begins places.Init q kinds.Inv e = refl
next_begins places.Init q kinds.Flow e = refl
next_begins places.Inv q kinds.Flow e = refl
next_begins places.Flow q kinds.Also e = refl
next_begins places.Flow q kinds.Loc e = refl
next_begins places.Flow q kinds.Trans e = refl
next_begins places.Flow q kinds.End e = refl
next_begins places.Also q kinds.Loc e = refl
next_begins places.Also q kinds.Trans e = refl
next_begins places.Also q kinds.End e = refl
next_begins places.Trans q kinds.Trans e = refl
next_begins places.Trans q kinds.End e = refl
next_begins places.End q kinds.Automaton e = refl
next_begins p q k e = none_some q e

is_start : (p : Place) → (p ≡ places.Start) ⊎ (p ≡ places.Start → ⊥)
is_start places.Start = inl refl
is_start p = inr (λ e. cc)

-- ---- the version

-- the first line reads the same in both versions
either_version : (v w : Bool) (body : List Mark) (s : Statement) → first_word s ≡ kinds.Lha → IsBody v body s → IsBody w body s
either_version v w body (Version x) e h = h
either_version v w body s e h = absurd (let b : ⊥ = cc in b)

first_version : (s : Statement) → first_word s ≡ kinds.Lha → second_if s ≡ version_behind false s
first_version (Version v) e = refl
first_version s e = refl

later_version : (v : Bool) (p q : Place) (s : Statement) → next p (first_word s) ≡ Some q → (p ≡ places.Start → ⊥) → v ≡ version_behind v s
later_version v places.Start q (Version x) d later = absurd (later refl)
later_version v p q (Version x) d later = none_some q d
later_version v p q s d later = refl

-- ---- counts

few_now : (w : Which) (c : Counts) (ss : List Numbered) → IsTrue (are_few w c) → StayFew w c ss → IsTrue (are_few w (counts_from c ss))
few_now w c [] f h = f
few_now w c (s ∷ ss) f h = few_now w (count c (first_word s.says)) ss h.0 h.1

-- the counts of lines that were read keep to each limit
pub few_read : (ls : List Lined) (ss : List Numbered) (p : Place) → AreReadLines ls ss p → (w : Which) → IsTrue (are_few w (counts_from none_yet ss))
few_read ls ss p h w = few_now w none_yet ss (few_none w) (h.few w)

-- ---- a line

in_one : (n : ℕ) (ts : List Placed) → StandIn n ts → lined ts ≡ in_line n (marks ts)
in_one n [] h = refl
in_one n (t ∷ ts) h = ap (λ z. record { line = z; mark = mark t } ∷ lined ts) h.0 ∙ ap (λ z. record { line = n; mark = mark t } ∷ z) (in_one n ts h.1)

-- what stands behind the first word of a line makes the line one that was read
pub line_read : (v : Bool) (p q : Place) (n : ℕ) (word : Placed) (ts : List Placed) (s : Statement) → next p word.kind ≡ Some q → word.line ≡ n → StandIn n ts →
    IsRead v word.kind (marks ts) s → IsReadLine v (lined (word ∷ ts)) (record { line = n; says = s })
line_read v p q n word ts s d l h (body, e, (f, b), keep) = (
  the word.kind ∷ body,
  in_one n (word ∷ ts) (l, h)
      ∙ ap (λ z. in_line n (z ∷ marks ts)) (word_mark p q word d)
      ∙ ap (λ z. in_line n (the word.kind ∷ z)) e,
  (body, ap (λ z. the z ∷ body) (sym f), b),
  λ w. ap (λ z. line_keeps w (the z ∷ body) s) (sym f) ∙ word_keeps w body s ∙ keep w,
)

-- the first line is read by the version that it tells
as_first : (v : Bool) (line : List Lined) (s : Numbered) → first_word s.says ≡ kinds.Lha → IsReadLine v line s → IsReadLine (second_if s.says) line s
as_first v line s f (ms, e, (body, g, b), keep) = (ms, e, (body, g, either_version v (second_if s.says) body s.says f b), keep)

-- ---- one more line

pub record More (ls : List Lined) (ss : List Numbered) (q : Place) (line : List Lined) (s : Numbered) : Type 0 where
  pub read : AreReadLines (ls ++ line) (ss ++ s ∷ []) q
  pub second : is_second (ss ++ s ∷ []) ≡ version_behind (is_second ss) s.says
  pub counts : counts_from none_yet (ss ++ s ∷ []) ≡ count (counts_from none_yet ss) (first_word s.says)

first_more : (q : Place) (line : List Lined) (s : Numbered) → IsReadLine false line s → next places.Start (first_word s.says) ≡ Some q → More [] [] q line s
first_more q line s h d =
    let lha = first_is_lha q (first_word s.says) d in
    record { read = first_read line s q (as_first false line s lha h) d; second = first_version s.says lha; counts = refl }

more_at : (ls : List Lined) (ss : List Numbered) (p q : Place) (line : List Lined) (s : Numbered) → AreReadLines ls ss p →
    IsReadLine (is_second ss) line s → next p (first_word s.says) ≡ Some q →
    ((w : Which) → IsTrue (are_few w (count (counts_from none_yet ss) (first_word s.says)))) → (p ≡ places.Start) ⊎ (p ≡ places.Start → ⊥) → More ls ss q line s
more_at ls [] p q line s h k d few (inl e) =
    subst (λ z. More z [] q line s) (sym h.say) (first_more q line s k (subst (λ z. next z (first_word s.says) ≡ Some q) e d))
more_at ls (t ∷ ss) p q line s h k d few (inl e) = absurd (some_before places.Start t ss (subst (Leads places.Start (t ∷ ss)) e h.order))
more_at ls ss p q line s h k d few (inr later) =
    let more = more_read ls ss p q line s h later k d few in
    record { read = more.0; second = more.1 ∙ later_version (is_second ss) p q s.says d later; counts = more.2 }

-- behind lines that were read, one more that may stand there, and is not one too many, is read
pub more_lines : (ls : List Lined) (ss : List Numbered) (p q : Place) (line : List Lined) (s : Numbered) → AreReadLines ls ss p →
    IsReadLine (is_second ss) line s → next p (first_word s.says) ≡ Some q →
    ((w : Which) → IsTrue (are_few w (count (counts_from none_yet ss) (first_word s.says)))) → More ls ss q line s
more_lines ls ss p q line s h k d few = more_at ls ss p q line s h k d few (is_start p)
