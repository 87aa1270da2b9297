-- What has kept to a limit, line by line.
use Rattle.std.proofs.Common.{◌≡◌, ◌↔◌, inl, inr, ℕ, ◌+◌, Bool, false, List, [], ◌∷◌, ◌++◌, refl, sym, ap, ◌∙◌, subst, append_assoc}
use Rattle.std.specs.Prelude.{IsTrue, nat_le}
use Rattle.std.proofs.lemmas.List.{map-append}
use Rattle.lang_specs.specs.declared.Which.{Which}
use Rattle.lang_specs.specs.declared.Which.TheVariants.{Automata, Locations}
use Rattle.lang_specs.specs.declared.Kind.TheVariants as kinds
use Rattle.lang_specs.specs.Marks.{Mark, the, a_name, a_number, Lined}
use Rattle.lang_specs.specs.Limits.{Keeps}
use Rattle.lang_specs.specs.FirstFault.{IsViableWithin, is_joint, EndsWithJoint, HasKept}
use Rattle.lang_specs.specs.Grammar.{version}
use Rattle.lang_specs.proofs.ListLemmas.{head_is, tail_is}
use Rattle.lang_order.specs.declared.Place.{Place}
use Rattle.lang_order.specs.declared.Place.TheVariants as places
use Rattle.lang_order.specs.Statements.{Version, Automaton, Vars, Loc, Flow, End, Numbered, is_second}
use Rattle.lang_order.specs.Building.{trees_of}
use Rattle.lang_order.specs.LineLimits.{line_keeps, Counts, none_yet, count, counts_from, are_few, AreWholeLinesWithin}
use Rattle.lang_order.specs.Beginnings.{in_line, IsOneLine, IsWithin, MayFollowWithin, LineEndsWithJoint, LineHasKept}
use Rattle.lang_order.proofs.FromGrammar.{by_lines}
use Rattle.lang_order.proofs.ToGrammar.{by_grammar}
use Rattle.lang_order.proofs.Walks.{Walk, say_of, order_of, walk_of, walk_within, any_of}
use Rattle.lang_order.proofs.Completions.{x, still_box, still_body, Completes}
use Rattle.lang_order.proofs.TextsOn.{TextOf, goes_on, text_on}
use Rattle.lang_order.proofs.TextLimits.{keeps_lines, lines_keep_so}

-- ---- the shortest statements keep to each limit

abbrev Few : Which → Counts → Type 0
Few w c = IsTrue (are_few w c)

lha_keeps : (w : Which) → IsWithin w none_yet (the kinds.Lha ∷ a_number (version false) ∷ []) (Version false)
lha_keeps Automata = (refl, refl)
lha_keeps w = (refl, refl)

automaton_keeps : (w : Which) → IsWithin w none_yet (the kinds.Automaton ∷ a_name x ∷ []) (Automaton x)
automaton_keeps Automata = (refl, refl)
automaton_keeps w = (refl, refl)

vars_keep : (w : Which) → IsTrue (line_keeps w (the kinds.Var ∷ a_name x ∷ []) (Vars (x ∷ [])))
vars_keep Automata = refl
vars_keep w = refl

loc_keeps : (w : Which) → IsTrue (line_keeps w (the kinds.Loc ∷ a_name x ∷ []) (Loc x false))
loc_keeps Automata = refl
loc_keeps w = refl

flow_keeps : (w : Which) → IsTrue (line_keeps w (the kinds.Flow ∷ still_body) (Flow (still_box ∷ [])))
flow_keeps Automata = refl
flow_keeps w = refl

end_keeps : (w : Which) → IsTrue (line_keeps w (the kinds.End ∷ []) End)
end_keeps Automata = refl
end_keeps w = refl

first_loc : (w : Which) (c : Counts) → Few w c → c.locs ≡ 0 → Few w (count c kinds.Loc)
first_loc Locations c f e = ap (λ z. nat_le (z + 1) 32) e
first_loc w c f e = f

pub few_none : (w : Which) → Few w none_yet
few_none Automata = refl
few_none w = refl

few_completes : (w : Which) → Completes (IsWithin w) (Few w)
few_completes w = record {
  begins = few_none w;
  stays = λ c ms s g. g.1;
  lha = lha_keeps w;
  automaton = automaton_keeps w;
  vars = λ c k. (vars_keep w, k);
  loc = λ c k e. (loc_keeps w, first_loc w c k e);
  flow = λ c k. (flow_keeps w, k);
  last = λ c k. (end_keeps w, k);
}

-- ---- limits of texts

text_of_viable : (w : Which) (ls : List Lined) → IsViableWithin w ls → TextOf (IsWithin w) ls
text_of_viable w ls (more, trees, h, k) =
    let t = by_lines (ls ++ more) trees h in
    let v = is_second t.says in
    let walk = walk_of v places.Start none_yet t.lines t.says places.End t.whole.say t.whole.order in
    let kept = subst (λ z. Keeps w z (trees_of t.says)) t.parts (subst (λ z. Keeps w (ls ++ more) z) (sym t.builds) k) in
    record {
      more = more;
      lines = t.lines;
      says = t.says;
      last = t.last;
      parts = t.parts;
      walk = keeps_lines v t.lines t.says t.last w walk kept;
    }

viable_of_text : (w : Which) (ls : List Lined) → TextOf (IsWithin w) ls → IsViableWithin w ls
viable_of_text w ls t =
    let v = is_second t.says in (
      t.more,
      trees_of t.says,
      by_grammar (ls ++ t.more) (trees_of t.says) (record {
        lines = t.lines;
        says = t.says;
        last = t.last;
        parts = t.parts;
        whole = record {
          say = say_of (IsWithin w) v places.Start none_yet t.lines t.says places.End t.walk;
          order = order_of (IsWithin w) v places.Start none_yet t.lines t.says places.End t.walk;
        };
        builds = refl;
      }),
      subst (λ z. Keeps w z (trees_of t.says)) (sym t.parts) (lines_keep_so v t.lines t.says t.last w t.walk),
    )

-- ---- beginnings

module _ (w : Which) (ls : List Lined) (ss : List Numbered) (p : Place) (h : AreWholeLinesWithin w ls ss p) where
  abbrev version_here : Bool
  version_here = is_second ss

  abbrev counts_here : Counts
  counts_here = counts_from none_yet ss

  abbrev Here : List Mark → Type 0
  Here ms = MayFollowWithin w version_here p counts_here ms

  walk_here : Walk (IsWithin w) version_here places.Start none_yet ls ss p
  walk_here = walk_within w version_here places.Start none_yet ls ss p h.say h.order h.few

  pub here_of_text : (n : ℕ) (ms : List Mark) → IsOneLine ms → IsViableWithin w (ls ++ in_line n ms) → Here ms
  here_of_text n ms o i =
      goes_on (IsWithin w) ls ss p n ms (any_of (IsWithin w) version_here places.Start none_yet ls ss p walk_here) o
      (text_of_viable w (ls ++ in_line n ms) i)

  pub text_of_here : (n : ℕ) (ms : List Mark) → Here ms → IsViableWithin w (ls ++ in_line n ms)
  text_of_here n ms i = viable_of_text w (ls ++ in_line n ms) (text_on (IsWithin w) (Few w) (few_completes w) ls ss p n ms walk_here i)

-- ---- a last sign

-- all but the last, and the last
record Last {A : Type 0} (xs : List A) : Type 0 where
  front : List A
  last : A
  parts : xs ≡ front ++ last ∷ []

last_of : {A : Type 0} (a : A) (xs : List A) → Last (a ∷ xs)
last_of a [] = record { front = []; last = a; parts = refl }
last_of a (b ∷ xs) = let l = last_of b xs in record { front = a ∷ l.front; last = l.last; parts = ap (λ z. a ∷ z) l.parts }

empty_not : {A : Type 0} (xs : List A) (y : A) → [] ≡ xs ++ y ∷ [] → ⊥
empty_not [] y e = let b : ⊥ = cc in b
empty_not (x ∷ xs) y e = let b : ⊥ = cc in b

-- two lists with one last element more
record SameLast {A : Type 0} (xs ys : List A) (x y : A) : Type 0 where
  fronts : xs ≡ ys
  lasts : x ≡ y

last_same : {A : Type 0} (xs ys : List A) (x y : A) → xs ++ x ∷ [] ≡ ys ++ y ∷ [] → SameLast xs ys x y
last_same [] [] x y e = record { fronts = refl; lasts = head_is x y [] [] e }
last_same [] (b ∷ ys) x y e = absurd (empty_not ys y (tail_is x b [] (ys ++ y ∷ []) e))
last_same (a ∷ xs) [] x y e = absurd (empty_not xs x (sym (tail_is a y (xs ++ x ∷ []) [] e)))
last_same (a ∷ xs) (b ∷ ys) x y e =
    let first = head_is a b (xs ++ x ∷ []) (ys ++ y ∷ []) e in
    let others = last_same xs ys x y (tail_is a b (xs ++ x ∷ []) (ys ++ y ∷ []) e) in
    record { fronts = ap (λ z. z ∷ xs) first ∙ ap (λ z. b ∷ z) others.fronts; lasts = others.lasts }

pub one_line_front : (xs ys : List Mark) → IsOneLine (xs ++ ys) → IsOneLine xs
one_line_front [] ys h = tt
one_line_front (x ∷ []) ys h = tt
one_line_front (x ∷ z ∷ xs) ys h = (h.0, one_line_front (z ∷ xs) ys h.1)

line_with : (ls : List Lined) (n : ℕ) (front : List Mark) (m : Mark) → ls ++ in_line n (front ++ m ∷ []) ≡ (ls ++ in_line n front) ++ record { line = n; mark = m } ∷ []
line_with ls n front m =
    ap (λ z. ls ++ z) (map-append (λ i. record { line = n; mark = i }) front (m ∷ []))
    ∙ sym (append_assoc ls (in_line n front) (record { line = n; mark = m } ∷ []))

-- ---- the law

joint_here : (w : Which) (ls : List Lined) (ss : List Numbered) (p : Place) → AreWholeLinesWithin w ls ss p → (n : ℕ) (ms : List Mark) → IsOneLine ms →
    Last ms → EndsWithJoint w (ls ++ in_line n ms) → LineEndsWithJoint w (is_second ss) p (counts_from none_yet ss) ms
joint_here w ls ss p h n ms o l j =
    let whole : (ls ++ in_line n l.front) ++ record { line = n; mark = l.last } ∷ [] ≡ j.front ++ j.joint ∷ [] =
    sym (line_with ls n l.front l.last) ∙ ap (λ z. ls ++ in_line n z) (sym l.parts) ∙ j.parts in
    let same = last_same (ls ++ in_line n l.front) j.front (record { line = n; mark = l.last }) j.joint whole in record {
      front = l.front;
      joint = l.last;
      parts = l.parts;
      joins = ap (λ z. is_joint z.mark.kind) same.lasts ∙ j.joins;
      before = here_of_text w ls ss p h n l.front (one_line_front l.front (l.last ∷ []) (subst IsOneLine l.parts o))
          (subst (IsViableWithin w) (sym same.fronts) j.before);
    }

kept_here : (w : Which) (ls : List Lined) (ss : List Numbered) (p : Place) → AreWholeLinesWithin w ls ss p → (n : ℕ) (ms : List Mark) → IsOneLine ms →
    HasKept w (ls ++ in_line n ms) → LineHasKept w (is_second ss) p (counts_from none_yet ss) ms
kept_here w ls ss p h n ms o (inl i) = inl (here_of_text w ls ss p h n ms o i)
kept_here w ls ss p h n [] o (inr j) = inl (inl refl)
kept_here w ls ss p h n (m ∷ ms) o (inr j) = inr (joint_here w ls ss p h n (m ∷ ms) o (last_of m ms) j)

here_kept : (w : Which) (ls : List Lined) (ss : List Numbered) (p : Place) → AreWholeLinesWithin w ls ss p → (n : ℕ) (ms : List Mark) →
    LineHasKept w (is_second ss) p (counts_from none_yet ss) ms → HasKept w (ls ++ in_line n ms)
here_kept w ls ss p h n ms (inl i) = inl (text_of_here w ls ss p h n ms i)
here_kept w ls ss p h n ms (inr j) = inr (record {
  front = ls ++ in_line n j.front;
  joint = record { line = n; mark = j.joint };
  parts = ap (λ z. ls ++ in_line n z) j.parts ∙ line_with ls n j.front j.joint;
  joins = j.joins;
  before = text_of_here w ls ss p h n j.front j.before;
})

pub kept_by_lines : (which : Which) (ls : List Lined) (ss : List Numbered) (p : Place) → AreWholeLinesWithin which ls ss p → (line : ℕ) (ms : List Mark) →
    IsOneLine ms → HasKept which (ls ++ in_line line ms) ↔ LineHasKept which (is_second ss) p (counts_from none_yet ss) ms
kept_by_lines w ls ss p h n ms o = (kept_here w ls ss p h n ms o, here_kept w ls ss p h n ms)
