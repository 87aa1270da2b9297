-- What holds of each token of a text, and of the tokens of each line.
use Rattle.std.proofs.Common.{◌≡◌, ℕ, Bool, true, List, [], ◌∷◌, ◌++◌, sym, subst}
use Rattle.std.specs.List.{list_all}
use Rattle.lang_specs.specs.declared.Kind.{Kind}
use Rattle.lang_specs.specs.declared.Kind.TheVariants as kinds
use Rattle.lang_specs.specs.Marks.{Mark, the, Lined, statement}
use Rattle.lang_specs.proofs.EachLemmas.{Each, each_append, each_front, each_rest, each_of_map, each_in_map, each_of_all, all_of_each}
use Rattle.lang_order.specs.declared.Place.{Place}
use Rattle.lang_order.specs.Statements.{Statement, first_word, Numbered}
use Rattle.lang_order.specs.ByLines.{text_end}
use Rattle.lang_order.specs.LineLimits.{Counts, count}
use Rattle.lang_order.proofs.Walks.{Any, Walk}

module _ (f : Kind → List ℕ → Bool) (at_end : f kinds.EndLine [] ≡ true) (at_last : f kinds.EndText [] ≡ true) where
  abbrev Holds : Mark → Type 0
  Holds m = f m.kind m.text ≡ true

  abbrev HoldsOf : Lined → Type 0
  HoldsOf l = f l.mark.kind l.mark.text ≡ true

  abbrev pub InLine : Counts → List Mark → Statement → Type 0
  InLine c ms s = list_all (λ m. f m.kind m.text) ms ≡ true

  in_lines : (v : Bool) (p : Place) (c : Counts) (ls : List Lined) (ss : List Numbered) (q : Place) → Walk Any v p c ls ss q → Each HoldsOf ls →
      Walk InLine v p c ls ss q
  in_lines v p c ls [] q w h = w
  in_lines v p c ls (s ∷ ss) q (body, rest, r, e, b, g, d, w) h =
      let ms : List Mark = the (first_word s.says) ∷ body in
      let whole : Each HoldsOf (statement s.line ms ++ rest) = subst (Each HoldsOf) e h in
      let line = each_of_map HoldsOf (λ m. record { line = s.line; mark = m }) (ms ++ the kinds.EndLine ∷ []) (each_front HoldsOf (statement s.line ms) rest whole) in (
        body,
        rest,
        r,
        e,
        b,
        all_of_each (λ m. f m.kind m.text) ms (each_front Holds ms (the kinds.EndLine ∷ []) line),
        d,
        in_lines v r (count c (first_word s.says)) rest ss q w (each_rest HoldsOf (statement s.line ms) rest whole),
      )

  of_lines : (v : Bool) (p : Place) (c : Counts) (ls : List Lined) (ss : List Numbered) (q : Place) → Walk InLine v p c ls ss q → Each HoldsOf ls
  of_lines v p c ls [] q w = subst (Each HoldsOf) (sym w.0) tt
  of_lines v p c ls (s ∷ ss) q (body, rest, r, e, b, g, d, w) =
      let ms : List Mark = the (first_word s.says) ∷ body in
      let inside = each_append Holds ms (the kinds.EndLine ∷ []) (each_of_all (λ m. f m.kind m.text) ms g) (at_end, tt) in
      let line = each_in_map HoldsOf (λ m. record { line = s.line; mark = m }) (ms ++ the kinds.EndLine ∷ []) inside in
      subst (Each HoldsOf) (sym e) (each_append HoldsOf (statement s.line ms) rest line (of_lines v r (count c (first_word s.says)) rest ss q w))

  pub lines_of_tokens : (v : Bool) (p : Place) (c : Counts) (ls : List Lined) (ss : List Numbered) (q : Place) (last : ℕ) → Walk Any v p c ls ss q →
      list_all (λ l. f l.mark.kind l.mark.text) (ls ++ text_end last) ≡ true → Walk InLine v p c ls ss q
  lines_of_tokens v p c ls ss q last w h =
      in_lines v p c ls ss q w (each_front HoldsOf ls (text_end last) (each_of_all (λ l. f l.mark.kind l.mark.text) (ls ++ text_end last) h))

  pub tokens_of_lines : (v : Bool) (p : Place) (c : Counts) (ls : List Lined) (ss : List Numbered) (q : Place) (last : ℕ) → Walk InLine v p c ls ss q →
      list_all (λ l. f l.mark.kind l.mark.text) (ls ++ text_end last) ≡ true
  tokens_of_lines v p c ls ss q last w =
      all_of_each (λ l. f l.mark.kind l.mark.text) (ls ++ text_end last) (each_append HoldsOf ls (text_end last) (of_lines v p c ls ss q w) (at_last, tt))
