-- Lines that were read, and one more.
use Rattle.std.proofs.Common.{◌≡◌, Bool, List, [], ◌∷◌, ◌++◌, Some, refl, sym, ap, ◌∙◌, subst, append_assoc, append-nil}
use Rattle.std.specs.Prelude.{IsTrue}
use Rattle.lang_specs.specs.declared.Which.{Which}
use Rattle.lang_specs.specs.declared.Which.TheVariants.{Automata}
use Rattle.lang_specs.specs.declared.Kind.TheVariants as kinds
use Rattle.lang_specs.specs.Marks.{Lined}
use Rattle.lang_specs.specs.Grammar.{AreInOrder}
use Rattle.lang_order.specs.declared.Place.{Place}
use Rattle.lang_order.specs.declared.Place.TheVariants as places
use Rattle.lang_order.specs.Statements.{Statement, Version, first_word, Numbered, second_if, is_second}
use Rattle.lang_order.specs.Order.{next, Leads}
use Rattle.lang_order.specs.LineLimits.{Counts, none_yet, count, counts_from, are_few, StayFew}
use Rattle.lang_order.specs.FaultsByLines.{IsReadLine, AreReadLines}
use Rattle.lang_order.proofs.ToGrammar.{none_some}

pub none_read : AreReadLines [] [] places.Start
none_read = record { say = refl; order = refl; few = λ w. tt }

-- ---- the first

lha_is_few : (w : Which) → IsTrue (are_few w (count none_yet kinds.Lha))
lha_is_few Automata = refl
lha_is_few w = refl

first_is_few : (w : Which) (s : Statement) (q : Place) → next places.Start (first_word s) ≡ Some q → IsTrue (are_few w (count none_yet (first_word s)))
first_is_few w (Version v) q e = lha_is_few w
first_is_few w s q e = none_some q e

pub first_read : (line : List Lined) (s : Numbered) (q : Place) → IsReadLine (second_if s.says) line s → next places.Start (first_word s.says) ≡ Some q →
    AreReadLines line (s ∷ []) q
first_read line s q h d =
    record { say = (line, [], sym (append-nil line), h, refl); order = (q, d, refl); few = λ w. (first_is_few w s.says q d, tt) }

-- ---- one more

more_say : (v : Bool) (ls : List Lined) (ss : List Numbered) (line : List Lined) (s : Numbered) → AreInOrder (IsReadLine v) ls ss → IsReadLine v line s →
    AreInOrder (IsReadLine v) (ls ++ line) (ss ++ s ∷ [])
more_say v ls [] line s h k = (line, [], ap (λ z. z ++ line) h ∙ sym (append-nil line), k, refl)
more_say v ls (t ∷ ss) line s (a, b, e, h, g) k = (a, b ++ line, ap (λ z. z ++ line) e ∙ append_assoc a b line, h, more_say v b ss line s g k)

more_order : (p q r : Place) (ss : List Numbered) (s : Numbered) → Leads p ss q → next q (first_word s.says) ≡ Some r → Leads p (ss ++ s ∷ []) r
more_order p q r [] s e d = (r, ap (λ z. next z (first_word s.says)) e ∙ d, refl)
more_order p q r (t ∷ ss) s (u, e, h) d = (u, e, more_order u q r ss s h d)

more_few : (w : Which) (c : Counts) (ss : List Numbered) (s : Numbered) → StayFew w c ss → IsTrue (are_few w (count (counts_from c ss) (first_word s.says))) →
    StayFew w c (ss ++ s ∷ [])
more_few w c [] s h f = (f, tt)
more_few w c (t ∷ ss) s h f = (h.0, more_few w (count c (first_word t.says)) ss s h.1 f)

counts_with : (c : Counts) (ss : List Numbered) (s : Numbered) → counts_from c (ss ++ s ∷ []) ≡ count (counts_from c ss) (first_word s.says)
counts_with c [] s = refl
counts_with c (t ∷ ss) s = counts_with (count c (first_word t.says)) ss s

same_version : (p : Place) (ss : List Numbered) (s : Numbered) → Leads places.Start ss p → (p ≡ places.Start → ⊥) → is_second (ss ++ s ∷ []) ≡ is_second ss
same_version p [] s e not_start = absurd (not_start (sym e))
same_version p (t ∷ ss) s h not_start = refl

pub more_read : (ls : List Lined) (ss : List Numbered) (p q : Place) (line : List Lined) (s : Numbered) → AreReadLines ls ss p → (p ≡ places.Start → ⊥) →
    IsReadLine (is_second ss) line s → next p (first_word s.says) ≡ Some q →
    ((which : Which) → IsTrue (are_few which (count (counts_from none_yet ss) (first_word s.says)))) →
    AreReadLines (ls ++ line) (ss ++ s ∷ []) q × (is_second (ss ++ s ∷ []) ≡ is_second ss)
    × (counts_from none_yet (ss ++ s ∷ []) ≡ count (counts_from none_yet ss) (first_word s.says))
more_read ls ss p q line s h not_start k d few =
    let version = same_version p ss s h.order not_start in (
      record {
        say = subst (λ v. AreInOrder (IsReadLine v) (ls ++ line) (ss ++ s ∷ [])) (sym version) (more_say (is_second ss) ls ss line s h.say k);
        order = more_order places.Start p q ss s h.order d;
        few = λ w. more_few w none_yet ss s (h.few w) (few w);
      },
      version,
      counts_with none_yet ss s,
    )
