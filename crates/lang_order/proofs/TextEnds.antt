-- No text is without a spelling and without a first fault: a walk over its tokens.
use Rattle.std.proofs.Common.{◌≡◌, ◌⊎◌, inl, inr, ℕ, zero, suc, ◌+◌, ◌<◌, ◌≤◌, Bool, true, false, List, [], ◌∷◌, ◌++◌, refl, sym, ap, ◌∙◌, subst, append_assoc, append-nil, arith}
use Rattle.std.specs.Prelude.{nat_lt}
use Rattle.std.proofs.lemmas.Bool.{ltb-true, ltb-false}
use Rattle.std.proofs.lemmas.List.{append_cancel_left, map-append}
use Rattle.lang_specs.specs.declared.Kind.{Kind}
use Rattle.lang_specs.specs.declared.Kind.TheVariants as kinds
use Rattle.lang_specs.specs.declared.Which.{Which}
use Rattle.lang_specs.specs.declared.Which.TheVariants.{Automata, Variables, Locations, Transitions, Rows, Terms, NameBytes, Digits}
use Rattle.lang_specs.specs.Tokens.{Placed, line_tokens}
use Rattle.lang_specs.specs.Lines.{unless_bare, end_of_text, tokens_from, lines_of, text_tokens}
use Rattle.lang_specs.specs.Marks.{Mark, the, mark, Lined, lined, statement}
use Rattle.lang_specs.specs.Trees.{Tree}
use Rattle.lang_specs.specs.Grammar.{Spell, AreInOrder}
use Rattle.lang_specs.specs.Limits.{Keeps, rank}
use Rattle.lang_specs.specs.FirstFault.{IsSpelling, IsViable, IsViableWithin, is_joint, EndsWithJoint, HasKept, HasKeptAll, Fault, SyntaxAt, LimitAt, IsFaultOf, IsFirstFault}
use Rattle.lang_specs.specs.Examples.{tank}
use Rattle.lang_specs.proofs.EachLemmas.{Each, each_append, each_front, each_rest, each_in_map}
use Rattle.lang_specs.proofs.ExampleFaults.{kept_all}
use Rattle.lang_specs.proofs.ExampleSpelling.{all_tokens, spelled, kept}
use Rattle.lang_specs.proofs.ListLemmas.{Begins, CutAlike, cut_alike, head_is, tail_is}
use Rattle.lang_specs.proofs.SplitLemmas.{apart}
use Rattle.lang_specs.proofs.TextSplits.{one_spelled, all_read}
use Rattle.lang_order.specs.Statements.{first_word, Numbered, IsLineOf, is_second}
use Rattle.lang_order.specs.ByLines.{text_end, SpellByLines}
use Rattle.lang_order.proofs.FromGrammar.{by_lines}
use Rattle.lang_order.proofs.LineEnds.{is_end, IsInside, inside_of}

-- ---- the end of a text stands last, and nowhere else

abbrev is_last : Kind → Bool
is_last kinds.EndText = true
is_last k = false

abbrev IsNoTextEnd : Lined → Type 0
IsNoTextEnd l = is_last l.mark.kind ≡ false

no_text_end : (k : Kind) → is_end k ≡ false → is_last k ≡ false
no_text_end kinds.EndText h = h
no_text_end k h = refl

of_line : (n : ℕ) (ms : List Mark) → Each IsInside ms → Each IsNoTextEnd (statement n ms)
of_line n [] h = (refl, tt)
of_line n (m ∷ ms) h = (no_text_end m.kind h.0, of_line n ms h.1)

of_lines : (v : Bool) (ls : List Lined) (ss : List Numbered) → AreInOrder (IsLineOf v) ls ss → Each IsNoTextEnd ls
of_lines v ls [] e = subst (Each IsNoTextEnd) (sym e) tt
of_lines v ls (s ∷ ss) (line, rest, e, (ms, f, (body, g, b)), h) =
    let here : Each IsInside ms = subst (Each IsInside) (sym g) (inside_of v body s.says b) in
    let first : Each IsNoTextEnd line = subst (Each IsNoTextEnd) (sym f) (of_line s.line ms here) in
    subst (Each IsNoTextEnd) (sym e) (each_append IsNoTextEnd line rest first (of_lines v rest ss h))

no_more : (xs : List Lined) (x : Lined) (ys : List Lined) → xs ++ x ∷ ys ≡ [] → ⊥
no_more [] x ys e = let b : ⊥ = cc in b
no_more (z ∷ xs) x ys e = let b : ⊥ = cc in b

-- what is spelled does not go on behind the end of a text
by_cut : (ls lines more : List Lined) (n last : ℕ) → Each IsNoTextEnd lines →
    ls ++ record { line = n; mark = the kinds.EndText } ∷ more ≡ lines ++ text_end last →
    CutAlike ls lines (record { line = n; mark = the kinds.EndText }) (record { line = last; mark = the kinds.EndText }) → more ≡ []
by_cut ls lines more n last none e (inl same) =
    let here : lines ++ record { line = n; mark = the kinds.EndText } ∷ more ≡ lines ++ text_end last =
    subst (λ z. z ++ record { line = n; mark = the kinds.EndText } ∷ more ≡ lines ++ text_end last) same.0 e in
    tail_is (record { line = n; mark = the kinds.EndText }) (record { line = last; mark = the kinds.EndText }) more []
    (append_cancel_left lines (record { line = n; mark = the kinds.EndText } ∷ more) (text_end last) here)
by_cut ls lines more n last none e (inr (inl b)) =
    let whole = each_front IsNoTextEnd (ls ++ text_end n) b.more (subst (Each IsNoTextEnd) b.parts none) in
    let behind = each_rest IsNoTextEnd ls (text_end n) whole in
    apart behind.0
by_cut ls lines more n last none e (inr (inr b)) =
    let parts : lines ++ (record { line = last; mark = the kinds.EndText } ∷ (b.more ++ record { line = n; mark = the kinds.EndText } ∷ more)) ≡ lines ++ text_end last =
    sym (append_assoc lines (text_end last) (b.more ++ record { line = n; mark = the kinds.EndText } ∷ more))
    ∙ sym (append_assoc (lines ++ text_end last) b.more (record { line = n; mark = the kinds.EndText } ∷ more))
    ∙ ap (λ z. z ++ record { line = n; mark = the kinds.EndText } ∷ more) (sym b.parts) ∙ e in
    absurd (no_more b.more (record { line = n; mark = the kinds.EndText }) more
    (tail_is (record { line = last; mark = the kinds.EndText }) (record { line = last; mark = the kinds.EndText })
    (b.more ++ record { line = n; mark = the kinds.EndText } ∷ more) []
    (append_cancel_left lines (record { line = last; mark = the kinds.EndText } ∷ (b.more ++ record { line = n; mark = the kinds.EndText } ∷ more)) (text_end last) parts)))

ends_there : (ls more : List Lined) (n : ℕ) (trees : List Tree) → Spell ((ls ++ text_end n) ++ more) trees → more ≡ []
ends_there ls more n trees s =
    let h = by_lines ((ls ++ text_end n) ++ more) trees s in
    let e : ls ++ record { line = n; mark = the kinds.EndText } ∷ more ≡ h.lines ++ text_end h.last = sym (append_assoc ls (text_end n) more) ∙ h.parts in
    by_cut ls h.lines more n h.last (of_lines (is_second h.says) h.lines h.says h.whole.say) e
    (cut_alike ls h.lines (record { line = n; mark = the kinds.EndText }) (record { line = h.last; mark = the kinds.EndText }) more [] e)

-- ---- all tokens

-- tokens, of which the last is the end of the text
record AreTokens (ls : List Lined) : Type 0 where
  front : List Lined
  last : ℕ
  parts : ls ≡ front ++ text_end last

lined_append : (ts us : List Placed) → lined (ts ++ us) ≡ lined ts ++ lined us
lined_append ts us = map-append (λ t. record { line = t.line; mark = mark t }) ts us

tokens_end : (line : ℕ) (ls : List (List ℕ)) → AreTokens (lined (tokens_from line ls))
tokens_end line [] = record { front = []; last = line; parts = refl }
tokens_end line (l ∷ ls) =
    let others = tokens_end (line + 1) ls in
    let first : List Placed = unless_bare (line_tokens line l) in record {
      front = lined first ++ others.front;
      last = others.last;
      parts = lined_append first (tokens_from (line + 1) ls) ∙ ap (λ z. lined first ++ z) others.parts
          ∙ sym (append_assoc (lined first) others.front (text_end others.last));
    }

-- what is spelled with the limit kept by tokens that end with the end of a text
record SpellWithin (w : Which) (ls : List Lined) : Type 0 where
  trees : List Tree
  spell : Spell ls trees
  keeps : Keeps w ls trees

alone : (w : Which) (ls more : List Lined) (trees : List Tree) → more ≡ [] → Spell (ls ++ more) trees → Keeps w (ls ++ more) trees → SpellWithin w ls
alone w ls more trees e s k =
    let same : ls ++ more ≡ ls = ap (λ z. ls ++ z) e ∙ append-nil ls in
    record { trees = trees; spell = subst (λ z. Spell z trees) same s; keeps = subst (λ z. Keeps w z trees) same k }

last_mark : List Lined → Mark
last_mark [] = the kinds.Other
last_mark (l ∷ []) = l.mark
last_mark (l ∷ m ∷ ls) = last_mark (m ∷ ls)

last_is : (ls : List Lined) (l : Lined) → last_mark (ls ++ l ∷ []) ≡ l.mark
unfolding last_mark
last_is [] l = refl
last_is (a ∷ []) l = refl
last_is (a ∷ b ∷ ls) l = last_is (b ∷ ls) l

within_of : (w : Which) (ls : List Lined) → AreTokens ls → HasKept w ls → SpellWithin w ls
within_of w ls t (inl (more, trees, s, k)) =
    alone w ls more trees (ends_there t.front more t.last trees (subst (λ z. Spell (z ++ more) trees) t.parts s)) s k
within_of w ls t (inr j) =
    let last : the kinds.EndText ≡ j.joint.mark =
    sym (last_is t.front (record { line = t.last; mark = the kinds.EndText })) ∙ ap last_mark (sym t.parts ∙ j.parts) ∙ last_is j.front j.joint in
    apart (sym j.joins ∙ ap (λ (m : Mark). is_joint m.kind) (sym last))

-- tokens that have passed no limit are a text
spelling : (text : List ℕ) → ((which : Which) → HasKept which (lined (text_tokens text))) → (trees : List Tree) × IsSpelling text trees
spelling text k =
    let ls : List Lined = lined (text_tokens text) in
    let t = tokens_end 1 (lines_of text) in
    let digits = within_of Digits ls t (k Digits) in (
      digits.trees,
      record {
        spelled = digits.spell;
        kept = λ w. let h = within_of w ls t (k w) in
            subst (Keeps w ls) (one_spelled ls h.trees digits.trees h.spell digits.spell (all_read ls digits.keeps)) h.keeps;
      },
    )

-- ---- one token more

at_rank : ℕ → Which
at_rank zero = Automata
at_rank (suc zero) = Variables
at_rank (suc (suc zero)) = Locations
at_rank (suc (suc (suc zero))) = Transitions
at_rank (suc (suc (suc (suc zero)))) = Rows
at_rank (suc (suc (suc (suc (suc zero))))) = Terms
at_rank (suc (suc (suc (suc (suc (suc zero)))))) = NameBytes
at_rank (suc (suc (suc (suc (suc (suc (suc n))))))) = Digits

rank_at : (n : ℕ) → rank (at_rank n) ≤ n
unfolding at_rank
rank_at zero = omega arith
rank_at (suc zero) = omega arith
rank_at (suc (suc zero)) = omega arith
rank_at (suc (suc (suc zero))) = omega arith
rank_at (suc (suc (suc (suc zero)))) = omega arith
rank_at (suc (suc (suc (suc (suc zero))))) = omega arith
rank_at (suc (suc (suc (suc (suc (suc zero)))))) = omega arith
rank_at (suc (suc (suc (suc (suc (suc (suc n))))))) = omega arith

at_its_rank : (w : Which) → at_rank (rank w) ≡ w
unfolding at_rank
at_its_rank Automata = refl
at_its_rank Variables = refl
at_its_rank Locations = refl
at_its_rank Transitions = refl
at_its_rank Rows = refl
at_its_rank Terms = refl
at_its_rank NameBytes = refl
at_its_rank Digits = refl

few_ranks : (w : Which) → rank w < 8
few_ranks Automata = omega arith
few_ranks Variables = omega arith
few_ranks Locations = omega arith
few_ranks Transitions = omega arith
few_ranks Rows = omega arith
few_ranks Terms = omega arith
few_ranks NameBytes = omega arith
few_ranks Digits = omega arith

-- where no limit is the first that fails, none fails
module _ (K : Which → Type 0) (none : (w : Which) → (K w → ⊥) → ((other : Which) → (K other → ⊥) → rank w ≤ rank other) → ⊥) where
  abbrev Below : ℕ → Type 0
  Below n = (w : Which) → rank w < n → K w

  no_lower : (n : ℕ) → Below n → (other : Which) → (K other → ⊥) → (b : Bool) → nat_lt (rank other) n ≡ b → n ≤ rank other
  no_lower n low other denied true e = absurd (denied (low other (ltb-true (rank other) n e)))
  no_lower n low other denied false e = ltb-false (rank other) n e

  next_kept : (n : ℕ) → Below n → K (at_rank n) → (w : Which) → rank w < suc n → (b : Bool) → nat_lt (rank w) n ≡ b → K w
  next_kept n low k w h true e = low w (ltb-true (rank w) n e)
  next_kept n low k w h false e =
      let least = ltb-false (rank w) n e in
      let same : n ≡ rank w = omega (arith, least, h) in
      subst K (ap at_rank same ∙ at_its_rank w) k

  below : (n : ℕ) → (Below n → ⊥) → ⊥
  below zero denied = denied (λ w h. absurd (omega (arith, h)))
  below (suc n) denied =
      below n (λ low. none (at_rank n)
      (λ k. denied (λ w h. next_kept n low k w h (nat_lt (rank w) n) refl))
      (λ other f. let least = no_lower n low other f (nat_lt (rank other) n) refl in omega (arith, rank_at n, least)))

  pub none_fails : (((w : Which) → K w) → ⊥) → ⊥
  none_fails denied = below 8 (λ low. denied (λ w. low w (few_ranks w)))

-- the front of a list with one element more is a front of the list, or the whole
record IsFront {A : Type 0} (xs front : List A) : Type 0 where
  more : List A
  parts : xs ≡ front ++ more

only : {A : Type 0} (x y : A) (front rest : List A) → x ∷ [] ≡ y ∷ (front ++ rest) → y ∷ front ≡ x ∷ []
only x y [] rest e = ap (λ z. z ∷ []) (sym (head_is x y [] rest e))
only x y (z ∷ front) rest e = absurd (let b : ⊥ = cc in b)

front_of_more : {A : Type 0} (xs : List A) (x : A) (front rest : List A) → xs ++ x ∷ [] ≡ front ++ rest → IsFront xs front ⊎ (front ≡ xs ++ x ∷ [])
front_of_more xs x [] rest e = inl (record { more = xs; parts = refl })
front_of_more [] x (y ∷ front) rest e = inr (only x y front rest e)
front_of_more (z ∷ xs) x (y ∷ front) rest e =
    let first = head_is z y (xs ++ x ∷ []) (front ++ rest) e in
    elim (front_of_more xs x front rest (tail_is z y (xs ++ x ∷ []) (front ++ rest) e)) [
      | inl h ↦ inl (record { more = h.more; parts = ap (λ i. i ∷ xs) first ∙ ap (λ i. y ∷ i) h.parts })
      | inr h ↦ inr (ap (λ i. i ∷ front) (sym first) ∙ ap (λ i. z ∷ i) h)
    ]

kept_with : (ls : List Lined) (l : Lined) → HasKeptAll ls → ((w : Which) → HasKept w (ls ++ l ∷ [])) → HasKeptAll (ls ++ l ∷ [])
kept_with ls l k h front rest w e =
    elim (front_of_more ls l front rest e) [
      | inl f ↦ k front f.more w f.parts
      | inr f ↦ subst (HasKept w) (sym f) (h w)
    ]

-- ---- the walk

-- tokens that can go on to a text, and have passed no limit
abbrev IsGood : List Placed → Type 0
IsGood front = IsViable (lined front) × HasKeptAll (lined front)

start : IsGood []
start = ((all_tokens, tank ∷ [], spelled), kept_all [] all_tokens (tank ∷ []) spelled kept)

module _ (text : List ℕ) (denied : (fault : Fault) → IsFirstFault text fault → ⊥) where
  no_fault_at : (front : List Placed) (t : Placed) (rest : List Placed) → text_tokens text ≡ front ++ t ∷ rest → IsGood front →
      (f : Fault) → IsFaultOf (lined (front ++ t ∷ [])) t f → ⊥
  no_fault_at front t rest e g f wrong =
      denied f (record { front = front; token = t; rest = rest; parts = e; viable = g.0; kept = g.1; wrong = wrong })

  good_with : (front : List Placed) (t : Placed) → IsGood front → IsViable (lined (front ++ t ∷ [])) →
      ((w : Which) → HasKept w (lined (front ++ t ∷ []))) → IsGood (front ++ t ∷ [])
  good_with front t g v k =
      let parts = lined_append front (t ∷ []) in
      (v, subst HasKeptAll (sym parts) (kept_with (lined front) (record { line = t.line; mark = mark t }) g.1 (λ w. subst (HasKept w) parts (k w))))

  one_more : (front : List Placed) (t : Placed) (rest : List Placed) → text_tokens text ≡ front ++ t ∷ rest → IsGood front →
      (IsGood (front ++ t ∷ []) → ⊥) → ⊥
  one_more front t rest e g stop =
      let ls : List Lined = lined (front ++ t ∷ []) in
      no_fault_at front t rest e g (SyntaxAt t.line t.column) (
        λ v. none_fails (λ w. HasKept w ls) (λ w f least. no_fault_at front t rest e g (LimitAt t.line w) (v, f, least, refl))
            (λ k. stop (good_with front t g v k)),
        refl,
        refl,
      )

  walk : (rest front : List Placed) → text_tokens text ≡ front ++ rest → IsGood front → (IsGood (text_tokens text) → ⊥) → ⊥
  walk [] front e g stop = stop (subst IsGood (sym (e ∙ append-nil front)) g)
  walk (t ∷ rest) front e g stop =
      one_more front t rest e g (λ h. walk rest (front ++ t ∷ []) (e ∙ sym (append_assoc front (t ∷ []) rest)) h stop)

pub some_end : (text : List ℕ) → ((trees : List Tree) → IsSpelling text trees → ⊥) → ((fault : Fault) → IsFirstFault text fault → ⊥) → ⊥
some_end text none denied =
    walk text denied (text_tokens text) [] refl start
    (λ g. let s = spelling text (λ w. g.1 (lined (text_tokens text)) [] w (sym (append-nil (lined (text_tokens text))))) in none s.0 s.1)
