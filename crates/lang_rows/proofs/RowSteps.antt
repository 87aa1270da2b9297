-- What a token does in a constraint, by what is complete before it.
use Rattle.std.proofs.Common.{◌≡◌, Bool, true, false, List, [], ◌∷◌, ◌++◌, Option, Some, None, refl}
use Rattle.lang_specs.specs.declared.Sign.{Sign}
use Rattle.lang_specs.specs.Marks.{Mark}
use Rattle.lang_tokens.specs.Machines.{Reading, next}
use Rattle.lang_rows.specs.Texts.{Term, Row}
use Rattle.lang_rows.specs.ExprMachine.{TermPlace, at_term, ExprPlace, expr_start, is_empty, in_term, made_term, joins}
use Rattle.lang_rows.specs.RowMachine.{Place, on_left, on_right, compares, in_row, rows}
use Rattle.lang_rows.specs.Views.{side_of}

abbrev R : Type 0
R = Reading Place Row

abbrev pub at : List Row → Option Sign → List Term → List Term → TermPlace → Bool → R
at done sign left terms p ended = record { done = done; place = side_of sign left (record { terms = terms; place = p }); has_ended = ended }

module _ (strict : Bool) (done : List Row) (left terms : List Term) (p : TermPlace) (ended : Bool) (m : Mark) (goes_on : ended ≡ false) where
  pub inside_next : (sign : Option Sign) (q : TermPlace) → in_term (is_empty terms) p m ≡ Some q → next (rows strict) (at done sign left terms p ended) m ≡ Some (at done sign left terms q false)
  unfolding in_row
  inside_next None q h = rw (goes_on, h) refl
  inside_next (Some s) q h = rw (goes_on, h) refl

  module _ (behind : in_term (is_empty terms) p m ≡ None) where
    pub nothing_next : (sign : Option Sign) → made_term p ≡ None → next (rows strict) (at done sign left terms p ended) m ≡ None
    unfolding in_row
    nothing_next None h = rw (goes_on, behind, h, h) refl
    nothing_next (Some s) h = rw (goes_on, behind, h, h) refl

    module _ (t : Term) (made : made_term p ≡ Some t) where
      pub joined_next : (sign : Option Sign) (neg : Bool) → joins m ≡ Some neg → next (rows strict) (at done sign left terms p ended) m ≡ Some (at done sign left (terms ++ t ∷ []) (at_term neg) false)
      unfolding in_row
      joined_next None neg h = rw (goes_on, behind, made, h) refl
      joined_next (Some s) neg h = rw (goes_on, behind, made, h) refl

      pub left_next : (s : Sign) → joins m ≡ None → compares strict m ≡ Some s → next (rows strict) (at done None left terms p ended) m ≡ Some (at done (Some s) (terms ++ t ∷ []) [] (at_term false) false)
      unfolding in_row
      left_next s h k = rw (goes_on, behind, made, h, k, made) refl

      pub left_refused : joins m ≡ None → compares strict m ≡ None → next (rows strict) (at done None left terms p ended) m ≡ None
      unfolding in_row
      left_refused h k = rw (goes_on, behind, made, h, k, made) refl
