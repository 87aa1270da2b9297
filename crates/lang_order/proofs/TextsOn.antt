-- Whole lines and the beginning of one more go on to a text exactly where the order allows that line, and it goes on.
use Rattle.std.proofs.Common.{◌≡◌, inl, inr, ℕ, Bool, true, false, List, [], ◌∷◌, ◌++◌, Some, refl, sym, ap, ◌∙◌, subst, append_assoc}
use Rattle.std.specs.Prelude.{codes, bytes_eq}
use Rattle.std.proofs.lemmas.List.{map-append}
use Rattle.lang_specs.specs.declared.Kind.TheVariants as kinds
use Rattle.lang_specs.specs.Marks.{Mark, the, a_number, Lined, statement}
use Rattle.lang_specs.specs.Grammar.{version}
use Rattle.lang_specs.proofs.ListLemmas.{tail_is}
use Rattle.lang_order.specs.declared.Place.{Place}
use Rattle.lang_order.specs.declared.Place.TheVariants as places
use Rattle.lang_order.specs.Statements.{Statement, Version, first_word, IsBody, Numbered, second_if, is_second}
use Rattle.lang_order.specs.Order.{next}
use Rattle.lang_order.specs.ByLines.{text_end}
use Rattle.lang_order.specs.LineLimits.{Counts, none_yet, count, counts_from}
use Rattle.lang_order.specs.Beginnings.{in_line, IsOneLine}
use Rattle.lang_order.proofs.LineEnds.{no_end_of}
use Rattle.lang_order.proofs.ToGrammar.{none_some, not_start}
use Rattle.lang_order.proofs.Walks.{Any, Walk, walk_on, one_split, strip, GoesOn, unfinished}
use Rattle.lang_order.proofs.Completions.{Completes, Fits, fits_next, fits_behind, Finished, finish}

-- these tokens go on to a text
pub record TextOf (G : Counts → List Mark → Statement → Type 0) (ls : List Lined) : Type 0 where
  pub more : List Lined
  pub lines : List Lined
  pub says : List Numbered
  pub last : ℕ
  pub parts : ls ++ more ≡ lines ++ text_end last
  pub walk : Walk G (is_second says) places.Start none_yet lines says places.End

-- ---- the version is told by the first line

version_back : (second : Bool) → bytes_eq (version second) (codes "2") ≡ second
version_back true = refl
version_back false = refl

version_told : (a b : Bool) → version a ≡ version b → a ≡ b
version_told a b e = sym (version_back a) ∙ ap (λ z. bytes_eq z (codes "2")) e ∙ version_back b

text_in : List Mark → List ℕ
text_in [] = []
text_in (m ∷ ms) = m.text

version_in : (a b : Bool) (body other : List Mark) → body ≡ a_number (version a) ∷ [] → other ≡ a_number (version b) ∷ [] → body ≡ other → a ≡ b
unfolding text_in
version_in a b body other h k e = version_told a b (ap text_in (sym h ∙ e ∙ k))

first_told : (v w : Bool) (s t : Statement) (q r : Place) (body other : List Mark) → next places.Start (first_word s) ≡ Some q →
    next places.Start (first_word t) ≡ Some r → IsBody v body s → IsBody w other t → body ≡ other → second_if s ≡ second_if t
first_told v w (Version a) (Version b) q r body other d f h k e = version_in a b body other h k e
first_told v w (Version a) t q r body other d f h k e = none_some r f
first_told v w s t q r body other d f h k e = none_some q d

-- texts that begin with one line have one version
one_version : (G : Counts → List Mark → Statement → Type 0) (v w : Bool) (ls ms more after : List Lined) (s : Numbered) (ss ts : List Numbered) (q r : Place) →
    Walk Any v places.Start none_yet ls (s ∷ ss) q → Walk G w places.Start none_yet ms ts places.End → ls ++ more ≡ ms ++ after → second_if s.says ≡ is_second ts
one_version G v w ls ms more after s ss [] q r h k e = not_start k.1
one_version G v w ls ms more after s ss (t ∷ ts) q r (body, rest, a, f, b, g, d, h) (other, behind, c, i, j, l, m, k) e =
    let mine : List Mark = the (first_word s.says) ∷ body in
    let theirs : List Mark = the (first_word t.says) ∷ other in
    let whole : statement s.line mine ++ (rest ++ more) ≡ statement t.line theirs ++ (behind ++ after) =
    sym (append_assoc (statement s.line mine) rest more) ∙ ap (λ z. z ++ more) (sym f) ∙ e ∙ ap (λ z. z ++ after) i
    ∙ append_assoc (statement t.line theirs) behind after in
    let same = one_split s.line t.line mine theirs (rest ++ more) (behind ++ after) (no_end_of v body s.says b) (no_end_of w other t.says j) whole in
    first_told v w s.says t.says a c body other d m b j (tail_is (the (first_word s.says)) (the (first_word t.says)) body other same.marks)

-- ---- what goes on to a text

-- at the start the version is still to be told
at_start : (G : Counts → List Mark → Statement → Type 0) (v w : Bool) (c : Counts) (ms : List Mark) → GoesOn G v places.Start c ms → GoesOn G w places.Start c ms
at_start G v w c ms (inl e) = inl e
at_start G v w c ms (inr (inl e)) = inr (inl e)
at_start G v w c ms (inr (inr (tail, Version a, (inside, e, (((body, f, b), (q, d)), g))))) =
    inr (inr (tail, Version a, (inside, e, (((body, f, b), (q, d)), g))))
at_start G v w c ms (inr (inr (tail, s, (inside, e, (((body, f, b), (q, d)), g))))) = none_some q d

pub goes_on : (G : Counts → List Mark → Statement → Type 0) (ls : List Lined) (ss : List Numbered) (p : Place) (n : ℕ) (ms : List Mark) →
    Walk Any (is_second ss) places.Start none_yet ls ss p → IsOneLine ms → TextOf G (ls ++ in_line n ms) →
    GoesOn G (is_second ss) p (counts_from none_yet ss) ms
goes_on G ls [] p n ms (e, f) o t =
    let parts : in_line n ms ++ t.more ≡ t.lines ++ text_end t.last = ap (λ z. (z ++ in_line n ms) ++ t.more) (sym e) ∙ t.parts in
    let there = unfinished G (is_second t.says) places.Start none_yet n t.last ms t.more t.lines t.says t.walk o parts in
    subst (λ z. GoesOn G false z none_yet ms) f (at_start G (is_second t.says) false none_yet ms there)
goes_on G ls (s ∷ ss) p n ms h o t =
    let parts : ls ++ (in_line n ms ++ t.more) ≡ t.lines ++ text_end t.last = sym (append_assoc ls (in_line n ms) t.more) ∙ t.parts in
    let v = second_if s.says in
    let same = one_version G v (is_second t.says) ls t.lines (in_line n ms ++ t.more) (text_end t.last) s ss t.says p places.End h t.walk parts in
    let walk = subst (λ z. Walk G z places.Start none_yet t.lines t.says places.End) (sym same) t.walk in
    let u = strip G v places.Start none_yet ls (s ∷ ss) p t.lines t.says places.End (in_line n ms ++ t.more) t.last h walk parts in
    unfinished G v p (counts_from none_yet (s ∷ ss)) n t.last ms t.more u.lines u.says u.walk o u.parts

-- ---- what a text goes on from

-- these tokens go on to the rest of a text
record Ends (G : Counts → List Mark → Statement → Type 0) (v : Bool) (p : Place) (c : Counts) (ls : List Lined) : Type 0 where
  more : List Lined
  lines : List Lined
  says : List Numbered
  last : ℕ
  parts : ls ++ more ≡ lines ++ text_end last
  walk : Walk G v p c lines says places.End

-- the rest of a line, and what stands behind
line_on : (n : ℕ) (ms tail inside : List Mark) (behind : List Lined) → ms ++ tail ≡ inside ++ the kinds.EndLine ∷ [] →
    in_line n ms ++ (in_line n tail ++ behind) ≡ statement n inside ++ behind
line_on n ms tail inside behind e =
    sym (append_assoc (in_line n ms) (in_line n tail) behind)
    ∙ ap (λ z. z ++ behind) (sym (map-append (λ m. record { line = n; mark = m }) ms tail) ∙ ap (in_line n) e)

module _ (G : Counts → List Mark → Statement → Type 0) (K : Counts → Type 0) (ok : Completes G K) where
  ends_so : (v : Bool) (p : Place) (c : Counts) (n : ℕ) (ms : List Mark) → Fits p c → K c → GoesOn G v p c ms → Ends G v p c (in_line n ms)
  ends_so v p c n ms f k (inl e) =
      let h = finish G K ok v p c f k in record {
        more = h.lines ++ text_end 0;
        lines = h.lines;
        says = h.says;
        last = 0;
        parts = ap (λ z. in_line n z ++ (h.lines ++ text_end 0)) e;
        walk = h.walk;
      }
  ends_so v p c n ms f k (inr (inl (e, g))) = record {
    more = [];
    lines = [];
    says = [];
    last = n;
    parts = ap (λ z. in_line n z ++ []) g;
    walk = (refl, e);
  }
  ends_so v p c n ms f k (inr (inr (tail, s, (inside, e, (((body, i, b), (q, d)), g))))) =
      let here : G c (the (first_word s) ∷ body) s = subst (λ z. G c z s) i g in
      let h = finish G K ok v q (count c (first_word s)) (fits_next p q c s d f) (ok.stays c inside s g) in record {
        more = in_line n tail ++ (h.lines ++ text_end 0);
        lines = statement n (the (first_word s) ∷ body) ++ h.lines;
        says = record { line = n; says = s } ∷ h.says;
        last = 0;
        parts =
            line_on n ms tail inside (h.lines ++ text_end 0) e ∙ ap (λ z. statement n z ++ (h.lines ++ text_end 0)) i
            ∙ sym (append_assoc (statement n (the (first_word s) ∷ body)) h.lines (text_end 0));
        walk = (body, h.lines, q, refl, b, here, d, h.walk);
      }

  -- a text from its first line on
  from_version : (w : Bool) (n : ℕ) (ls : List Lined) (more : List Lined) (body : List Mark) (f : Finished G w places.Lha none_yet) →
      G none_yet (the kinds.Lha ∷ body) (Version w) → body ≡ a_number (version w) ∷ [] →
      ls ++ more ≡ (statement n (the kinds.Lha ∷ body) ++ f.lines) ++ text_end 0 → TextOf G ls
  from_version w n ls more body f g b e = record {
    more = more;
    lines = statement n (the kinds.Lha ∷ body) ++ f.lines;
    says = record { line = n; says = Version w } ∷ f.says;
    last = 0;
    parts = e;
    walk = (body, f.lines, places.Lha, refl, b, g, refl, f.walk);
  }

  begins_so : (n : ℕ) (ms : List Mark) → GoesOn G false places.Start none_yet ms → TextOf G (in_line n ms)
  begins_so n ms (inl e) =
      let f = finish G K ok false places.Lha none_yet refl ok.begins in
      let body : List Mark = a_number (version false) ∷ [] in
      from_version false n (in_line n ms) ((statement n (the kinds.Lha ∷ body) ++ f.lines) ++ text_end 0) body f ok.lha refl
      (ap (λ z. in_line n z ++ ((statement n (the kinds.Lha ∷ body) ++ f.lines) ++ text_end 0)) e)
  begins_so n ms (inr (inl (e, g))) = not_start e
  begins_so n ms (inr (inr (tail, Version w, (inside, e, (((body, i, b), (q, d)), g))))) =
      let f = finish G K ok w places.Lha none_yet refl ok.begins in
      from_version w n (in_line n ms) (in_line n tail ++ (f.lines ++ text_end 0)) body f (subst (λ z. G none_yet z (Version w)) i g) b
      (line_on n ms tail inside (f.lines ++ text_end 0) e ∙ ap (λ z. statement n z ++ (f.lines ++ text_end 0)) i
      ∙ sym (append_assoc (statement n (the kinds.Lha ∷ body)) f.lines (text_end 0)))
  begins_so n ms (inr (inr (tail, s, (inside, e, (((body, i, b), (q, d)), g))))) = none_some q d

  -- the counts stay so
  stays_so : (v : Bool) (p : Place) (c : Counts) (ls : List Lined) (ss : List Numbered) (q : Place) → Walk G v p c ls ss q → K c → K (counts_from c ss)
  stays_so v p c ls [] q h k = k
  stays_so v p c ls (s ∷ ss) q (body, rest, r, e, b, g, d, w) k =
      stays_so v r (count c (first_word s.says)) rest ss q w (ok.stays c (the (first_word s.says) ∷ body) s.says g)

  pub text_on : (ls : List Lined) (ss : List Numbered) (p : Place) (n : ℕ) (ms : List Mark) → Walk G (is_second ss) places.Start none_yet ls ss p →
      GoesOn G (is_second ss) p (counts_from none_yet ss) ms → TextOf G (ls ++ in_line n ms)
  text_on ls [] p n ms (e, f) g =
      subst (λ z. TextOf G (z ++ in_line n ms)) (sym e) (begins_so n ms (subst (λ z. GoesOn G false z none_yet ms) (sym f) g))
  text_on ls (s ∷ ss) p n ms h g =
      let v = second_if s.says in
      let c = counts_from none_yet (s ∷ ss) in
      let t = ends_so v p c n ms (fits_behind G v places.Start none_yet ls (s ∷ ss) p h refl)
      (stays_so v places.Start none_yet ls (s ∷ ss) p h ok.begins) g in record {
        more = t.more;
        lines = ls ++ t.lines;
        says = s ∷ ss ++ t.says;
        last = t.last;
        parts = append_assoc ls (in_line n ms) t.more ∙ ap (λ z. ls ++ z) t.parts ∙ sym (append_assoc ls t.lines (text_end t.last));
        walk = walk_on G v places.Start none_yet ls (s ∷ ss) p t.lines t.says places.End h t.walk;
      }
