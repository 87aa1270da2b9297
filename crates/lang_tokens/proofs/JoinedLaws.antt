-- Reading items with commas between accepts what spells them and nothing else, each place can be completed, and limits are
-- kept exactly where the items keep them.
use Rattle.std.proofs.Common.{◌≡◌, inl, inr, ℕ, Bool, true, false, List, [], ◌∷◌, ◌++◌, Option, Some, None, Result, Ok, Err, refl, sym, ap, ◌∙◌, subst, append_assoc, zero, suc, ◌<◌, ◌≤◌, length, map, take, get_or, arith}
use Rattle.std.specs.Prelude.{⊤, IfOk}
use Rattle.std.proofs.lemmas.List.{append-nil}
use Rattle.lang_specs.specs.declared.Which.{Which}
use Rattle.lang_specs.specs.declared.Kind.TheVariants.{Comma, EndLine}
use Rattle.lang_specs.specs.Tokens.{Placed}
use Rattle.lang_specs.specs.Marks.{Mark, the}
use Rattle.lang_specs.specs.Expressions.{AreJoined, IsSome}
use Rattle.lang_tokens.specs.Kinds.{same_kind}
use Rattle.lang_tokens.specs.Machines.{AllValues, Machine, Reading, start_of, behind_item, in_item, next, listed, run}
use Rattle.lang_tokens.specs.LineFaults.{marks, AreLiterals, IsLine, Keeping, marks_keep, IsLineWithin, IsLineFault}
use Rattle.lang_tokens.specs.declared.faults.LineFault.{LineFault}
use Rattle.lang_tokens.specs.Gives.{FailsSo}
use Rattle.lang_tokens.proofs.LiteralMarks.{literals_front, literals_rest, literals_append}
use Rattle.lang_tokens.proofs.LimitLemmas.{ArePlain, plain_append, plain_literals, plain_keep}
use Rattle.lang_tokens.proofs.LineLaws.{LineLaws, reads_start, reads_run, line_fault, line_within}
use Rattle.lang_tokens.proofs.Walks.{IsClean, is_the, if_either, walk, and_walk, walk_on, walk_one, walk_step}

-- what is said of the machine of an item: how items are spelled, what was read up to a place, which items are good ones, and
-- which places come before such
pub record Laws {P X : Type 0} (machine : Machine P X) (spell : X → List Mark) (said : P → List Mark) (Good : X → Type 0) (Fine : P → Type 0) : Type 0 where
  pub at_start : said machine.start ≡ []
  pub one_more : (p q : P) (m : Mark) → IsClean m → machine.next p m ≡ Some q → said q ≡ said p ++ m ∷ []
  pub complete : (p : P) (x : X) → machine.made p ≡ Some x → said p ≡ spell x
  pub start_fine : Fine machine.start
  pub stays_fine : (p q : P) (m : Mark) → Fine p → machine.next p m ≡ Some q → Fine q
  pub made_good : (p : P) (x : X) → Fine p → machine.made p ≡ Some x → Good x
  pub accepts : (x : X) → Good x → (p : P) × (walk machine.next machine.start (spell x) ≡ Some p) × (machine.made p ≡ Some x)
  pub no_comma : (p : P) (x : X) → machine.made p ≡ Some x → machine.next p (the Comma) ≡ None
  pub no_end : (p : P) (x : X) → machine.made p ≡ Some x → machine.next p (the EndLine) ≡ None
  pub finishes : (p : P) → (more : List Mark) × (x : X) × (said p ++ more ≡ spell x) × ArePlain more
  pub finish_good : (p : P) → Fine p → Good (finishes p).1

-- where no item and no place is a bad one
abbrev pub Any : {A : Type 0} → A → Type 0
Any x = ⊤

abbrev pub AllGood : {X : Type 0} → (X → Type 0) → List X → Type 0
AllGood Good [] = ⊤
AllGood Good (x ∷ xs) = Good x × AllGood Good xs

good_more : {X : Type 0} (Good : X → Type 0) (xs : List X) (x : X) → AllGood Good xs → Good x → AllGood Good (xs ++ x ∷ [])
good_more Good [] x h g = (g, tt)
good_more Good (y ∷ xs) x h g = (h.0, good_more Good xs x h.1 g)

abbrev pub at : {P X : Type 0} → List X → P → Reading P X
at done p = record { done = done; place = p; has_ended = false }

abbrev pub ended : {P X : Type 0} → Machine P X → List X → Reading P X
ended machine done = record { done = done; place = machine.start; has_ended = true }

-- what is said of limits: a place that fits lies behind places that do, also over the end of an item; a place that fits can
-- be completed within the limit; and behind the end the limit fits where what the items say keeps to it
pub record LimitLaws {P X Y : Type 0} (machine : Machine P X) (finish : P → X) (Value : X → Y → Type 0) (keeps : Keeping (List Y)) : Type 0 where
  pub at_start : (which : Which) → machine.fits which (start_of machine) ≡ true
  pub inside : (which : Which) (done : List X) (p q : P) (m : Mark) → machine.next p m ≡ Some q → machine.fits which (at done q) ≡ true → machine.fits which (at done p) ≡ true
  pub over_comma : (which : Which) (done : List X) (p : P) (x : X) → machine.made p ≡ Some x → machine.fits which (at (done ++ x ∷ []) machine.start) ≡ true →
      machine.fits which (at done p) ≡ true
  pub over_end : (which : Which) (done : List X) (p : P) (x : X) → machine.made p ≡ Some x → machine.fits which (ended machine (done ++ x ∷ [])) ≡ true →
      machine.fits which (at done p) ≡ true
  pub finished : (which : Which) (done : List X) (p : P) → machine.fits which (at done p) ≡ true → machine.fits which (ended machine (done ++ finish p ∷ [])) ≡ true
  pub ended_alike : (which : Which) (xs : List X) (p : P) → machine.fits which (record { done = xs; place = p; has_ended = true }) ≡ true → machine.fits which (ended machine xs) ≡ true
  pub at_end : (which : Which) (xs : List X) (ys : List Y) → AllValues Value xs ys → machine.fits which (ended machine xs) ≡ keeps which ys

-- items with a comma behind each
pub before : {X : Type 0} → (X → List Mark) → List X → List Mark
before spell [] = []
before spell (x ∷ xs) = spell x ++ the Comma ∷ before spell xs

-- items with commas between
pub joined : {X : Type 0} → (X → List Mark) → List X → List Mark
joined spell [] = []
joined spell (x ∷ []) = spell x
joined spell (x ∷ y ∷ xs) = spell x ++ the Comma ∷ joined spell (y ∷ xs)

pub before_more : {X : Type 0} (spell : X → List Mark) (xs : List X) (x : X) → before spell (xs ++ x ∷ []) ≡ before spell xs ++ (spell x ++ the Comma ∷ [])
unfolding before
before_more spell [] x = refl
before_more spell (y ∷ xs) x = rw (before_more spell xs x) (sym (append_assoc (spell y) (the Comma ∷ before spell xs) (spell x ++ the Comma ∷ [])))

pub joined_last : {X : Type 0} (spell : X → List Mark) (xs : List X) (x : X) → joined spell (xs ++ x ∷ []) ≡ before spell xs ++ spell x
unfolding before joined
joined_last spell [] x = refl
joined_last spell (y ∷ []) x = sym (append_assoc (spell y) (the Comma ∷ []) (spell x))
joined_last spell (y ∷ z ∷ xs) x = rw (joined_last spell (z ∷ xs) x) (sym (append_assoc (spell y) (the Comma ∷ before spell (z ∷ xs)) (spell x)))

pub some_last : {X : Type 0} (xs : List X) (x : X) → IsSome (xs ++ x ∷ [])
some_last [] x = tt
some_last (y ∷ xs) x = tt

-- these items, of which there is at least one, with commas between
abbrev pub Spelled : {X : Type 0} → (X → List Mark) → List Mark → List X → Type 0
Spelled spell ms xs = IsSome xs × (ms ≡ joined spell xs)

-- items as they are written and what they say
pub record Values {X Y : Type 0} (spell : X → List Mark) (Is : List Mark → Y → Type 0) (Value : X → Y → Type 0) (Good : X → Type 0) : Type 0 where
  pub spells : (x : X) (y : Y) → Good x → Value x y → Is (spell x) y
  pub spelled : (ms : List Mark) (y : Y) → Is ms y → (x : X) × (ms ≡ spell x) × Value x y × Good x
  pub valued : (x : X) → Good x → AreLiterals (spell x) → (y : Y) × Value x y

module _ {X Y : Type 0} (spell : X → List Mark) (Is : List Mark → Y → Type 0) (Value : X → Y → Type 0) (Good : X → Type 0) (values : Values spell Is Value Good) where
  pub joined_spells : (xs : List X) (ys : List Y) → IsSome xs → AllGood Good xs → AllValues Value xs ys → AreJoined Is (joined spell xs) ys
  unfolding joined
  joined_spells [] ys some g h = absurd some
  joined_spells (x ∷ []) [] some g h = absurd h
  joined_spells (x ∷ []) (y ∷ []) some g h = values.spells x y g.0 h.0
  joined_spells (x ∷ []) (y ∷ w ∷ ys) some g h = absurd h.1
  joined_spells (x ∷ z ∷ xs) [] some g h = absurd h
  joined_spells (x ∷ z ∷ xs) (y ∷ []) some g h = absurd h.1
  joined_spells (x ∷ z ∷ xs) (y ∷ w ∷ ys) some g h = (spell x, joined spell (z ∷ xs), refl, values.spells x y g.0 h.0, joined_spells (z ∷ xs) (w ∷ ys) tt g.1 h.1)

  spelled_more : (ms front rest : List Mark) (y : Y) (ys : List Y) → ms ≡ front ++ the Comma ∷ rest → (x : X) → front ≡ spell x → Value x y → Good x →
      (xs : List X) → (IsSome xs × (rest ≡ joined spell xs)) → AllValues Value xs ys → AllGood Good xs →
      (zs : List X) × (IsSome zs × (ms ≡ joined spell zs)) × AllValues Value zs (y ∷ ys) × AllGood Good zs
  unfolding joined
  spelled_more ms front rest y ys parts x e v good [] some all goods = absurd some.0
  spelled_more ms front rest y ys parts x e v good (z ∷ xs) some all goods =
      (x ∷ z ∷ xs, (tt, parts ∙ ap (λ w. w ++ the Comma ∷ rest) e ∙ ap (λ w. spell x ++ the Comma ∷ w) some.1), (v, all), (good, goods))

  pub joined_spelled : (ms : List Mark) (ys : List Y) → AreJoined Is ms ys → (xs : List X) × (IsSome xs × (ms ≡ joined spell xs)) × AllValues Value xs ys × AllGood Good xs
  unfolding joined
  joined_spelled ms [] h = absurd h
  joined_spelled ms (y ∷ []) h = let one = values.spelled ms y h in (one.0 ∷ [], (tt, one.1), (one.2, tt), (one.3, tt))
  joined_spelled ms (y ∷ w ∷ ys) (front, rest, parts, h, k) =
      let one = values.spelled front y h in
      let others = joined_spelled rest (w ∷ ys) k in
      spelled_more ms front rest y (w ∷ ys) parts one.0 one.1 one.2 one.3 others.0 others.1 others.2 others.3

  pub joined_valued : (xs : List X) → AllGood Good xs → AreLiterals (joined spell xs) → (ys : List Y) × AllValues Value xs ys
  unfolding joined
  joined_valued [] g h = ([], tt)
  joined_valued (x ∷ []) g h = let one = values.valued x g.0 h in (one.0 ∷ [], (one.1, tt))
  joined_valued (x ∷ z ∷ xs) g h =
      let one = values.valued x g.0 (literals_front (spell x) (the Comma ∷ joined spell (z ∷ xs)) h) in
      let others = joined_valued (z ∷ xs) g.1 (literals_rest (spell x) (the Comma ∷ joined spell (z ∷ xs)) h).1 in
      (one.0 ∷ others.0, (one.1, others.1))

module _ {P X : Type 0} (machine : Machine P X) (spell : X → List Mark) (said : P → List Mark) (Good : X → Type 0) (Fine : P → Type 0) (laws : Laws machine spell said Good Fine) where
  -- what was read up to a state
  abbrev pub SaidBy : Bool → List X → P → List Mark → Type 0
  SaidBy false done p ms = (ms ≡ before spell done ++ said p) × AllGood Good done × Fine p
  SaidBy true done p ms = IsSome done × (ms ≡ joined spell done ++ the EndLine ∷ []) × AllGood Good done

  abbrev pub Said : Reading P X → List Mark → Type 0
  Said s ms = SaidBy s.has_ended s.done s.place ms

  said_behind : (done : List X) (p : P) (x : X) (m : Mark) (u : Reading P X) (ms : List Mark) → IsClean m → machine.made p ≡ Some x →
      SaidBy false done p ms → behind_item machine done m (Some x) ≡ Some u → Said u (ms ++ m ∷ [])
  said_behind done p x m u ms c made s e =
      let spelled : ms ≡ before spell done ++ spell x = s.0 ∙ ap (λ z. before spell done ++ z) (laws.complete p x made) in
      let good = good_more Good done x s.1 (laws.made_good p x s.2 made) in
      elim (if_either (same_kind m.kind Comma) (same_kind m.kind EndLine) (record { done = done ++ x ∷ []; place = machine.start; has_ended = false })
      (record { done = done ++ x ∷ []; place = machine.start; has_ended = true }) u e) [
        | inl h ↦ subst (λ v. Said v (ms ++ m ∷ [])) h.1 (
          (rw (spelled, is_the m Comma c refl h.0) (append_assoc (before spell done) (spell x) (the Comma ∷ []) ∙ sym (before_more spell done x)
              ∙ sym (append-nil (before spell (done ++ x ∷ []))) ∙ ap (λ z. before spell (done ++ x ∷ []) ++ z) (sym laws.at_start))),
          good,
          laws.start_fine,
        )
        | inr h ↦ subst (λ v. Said v (ms ++ m ∷ [])) h.1
            (some_last done x, (rw (spelled, is_the m EndLine c refl h.0) (ap (λ z. z ++ the EndLine ∷ []) (sym (joined_last spell done x)))), good)
      ]

  said_in : (done : List X) (p : P) (m : Mark) (o : Option P) (u : Reading P X) (ms : List Mark) → IsClean m → machine.next p m ≡ o →
      SaidBy false done p ms → in_item machine (record { done = done; place = p; has_ended = false }) m o ≡ Some u → Said u (ms ++ m ∷ [])
  said_in done p m (Some q) u ms c n s e =
      let is_u : record { done = done; place = q; has_ended = false } ≡ u = cc in
      subst (λ v. Said v (ms ++ m ∷ [])) is_u
      (ap (λ z. z ++ m ∷ []) s.0 ∙ append_assoc (before spell done) (said p) (m ∷ []) ∙ ap (λ z. before spell done ++ z) (sym (laws.one_more p q m c n)), s.1, laws.stays_fine p q m s.2 n)
  said_in done p m None u ms c n s e =
      elim (machine.made p) as (λ o. machine.made p ≡ o → behind_item machine done m o ≡ Some u → Said u (ms ++ m ∷ [])) [
        | None ↦ λ h k. absurd cc
        | Some x ↦ λ h k. said_behind done p x m u ms c h s k
      ] refl e

  said_by : (b : Bool) (done : List X) (p : P) (m : Mark) (u : Reading P X) (ms : List Mark) → IsClean m → SaidBy b done p ms →
      next machine (record { done = done; place = p; has_ended = b }) m ≡ Some u → Said u (ms ++ m ∷ [])
  said_by true done p m u ms c s e = absurd cc
  said_by false done p m u ms c s e = said_in done p m (machine.next p m) u ms c refl s e

  -- a step says one mark more
  pub said_next : (s u : Reading P X) (m : Mark) (ms : List Mark) → IsClean m → Said s ms → next machine s m ≡ Some u → Said u (ms ++ m ∷ [])
  said_next s u m ms c h e = said_by s.has_ended s.done s.place m u ms c h e

  -- ---- what is spelled is taken

  -- a walk in an item is one in the list
  lift : (done : List X) (p q : P) (ms : List Mark) → walk machine.next p ms ≡ Some q → walk (next machine) (at done p) ms ≡ Some (at done q)
  unfolding walk and_walk
  lift done p q [] e = let same : p ≡ q = cc in ap (λ z. Some (at done z)) same
  lift done p q (m ∷ ms) e =
      elim (machine.next p m) as (λ o. and_walk o (λ u. walk machine.next u ms) ≡ Some q → and_walk (in_item machine (at done p) m o) (λ u. walk (next machine) u ms) ≡ Some (at done q)) [
        | None ↦ λ h. absurd cc
        | Some v ↦ λ h. lift done v q ms h
      ] e

  comma_next : (done : List X) (p : P) (x : X) → machine.made p ≡ Some x → next machine (at done p) (the Comma) ≡ Some (at (done ++ x ∷ []) machine.start)
  comma_next done p x h = rw (laws.no_comma p x h, h) refl

  end_next : (done : List X) (p : P) (x : X) → machine.made p ≡ Some x → next machine (at done p) (the EndLine) ≡ Some (ended machine (done ++ x ∷ []))
  end_next done p x h = rw (laws.no_end p x h, h) refl

  takes : (done : List X) (x : X) (xs : List X) → AllGood Good (x ∷ xs) → walk (next machine) (at done machine.start) (joined spell (x ∷ xs) ++ the EndLine ∷ []) ≡ Some (ended machine (done ++ x ∷ xs))
  unfolding joined
  takes done x [] g =
      let one = laws.accepts x g.0 in
      walk_on (next machine) (at done machine.start) (at done one.0) (spell x) (the EndLine ∷ []) (lift done machine.start one.0 (spell x) one.1)
      ∙ walk_one (next machine) (at done one.0) (the EndLine) ∙ end_next done one.0 x one.2
  takes done x (y ∷ xs) g =
      let one = laws.accepts x g.0 in
      let more = joined spell (y ∷ xs) ++ the EndLine ∷ [] in
      ap (walk (next machine) (at done machine.start)) (append_assoc (spell x) (the Comma ∷ joined spell (y ∷ xs)) (the EndLine ∷ []))
      ∙ walk_on (next machine) (at done machine.start) (at done one.0) (spell x) (the Comma ∷ more) (lift done machine.start one.0 (spell x) one.1)
      ∙ walk_step (next machine) (at done one.0) (at (done ++ x ∷ []) machine.start) (the Comma) more (comma_next done one.0 x one.2)
      ∙ takes (done ++ x ∷ []) y xs g.1 ∙ ap (λ z. Some (ended machine z)) (append_assoc done (x ∷ []) (y ∷ xs))

  taken : (xs : List X) → IsSome xs → AllGood Good xs → walk (next machine) (start_of machine) (joined spell xs ++ the EndLine ∷ []) ≡ Some (ended machine xs)
  taken [] h g = absurd h
  taken (x ∷ xs) h g = takes [] x xs g

  -- ---- what a line says, and where it says nothing

  abbrev pub finish : P → X
  finish p = (laws.finishes p).1

  pub ended_said : (b : Bool) (done : List X) (p : P) (ms : List Mark) → b ≡ true → SaidBy b done p ms → IsLine (Spelled spell) ms done × AllGood Good done
  ended_said true done p ms e h = ((joined spell done, h.1, (h.0, refl)), h.2)
  ended_said false done p ms e h = absurd cc

  module _ {Y : Type 0} (Is : List Mark → Y → Type 0) (Value : X → Y → Type 0) (values : Values spell Is Value Good) (keeps : Keeping (List Y)) (limits : LimitLaws machine finish Value keeps) where
    line_taken : (ms : List Mark) (ys : List Y) → IsLine (AreJoined Is) ms ys →
        (u : Reading P X) × (walk (next machine) (start_of machine) ms ≡ Some u) × ((which : Which) → keeps which ys ≡ true → machine.fits which u ≡ true)
    line_taken ms ys (inside, parts, h) =
        let s = joined_spelled spell Is Value Good values inside ys h in
        let whole : ms ≡ joined spell s.0 ++ the EndLine ∷ [] = parts ∙ ap (λ z. z ++ the EndLine ∷ []) s.1.1 in
        (ended machine s.0, ap (walk (next machine) (start_of machine)) whole ∙ taken s.0 s.1.0 s.3, λ which k. limits.at_end which s.0 ys s.2 ∙ k)

    over_item : (which : Which) (done : List X) (p : P) (x : X) (m : Mark) (u : Reading P X) → machine.made p ≡ Some x → behind_item machine done m (Some x) ≡ Some u →
        machine.fits which u ≡ true → machine.fits which (at done p) ≡ true
    over_item which done p x m u made e f =
        elim (if_either (same_kind m.kind Comma) (same_kind m.kind EndLine) (at (done ++ x ∷ []) machine.start) (ended machine (done ++ x ∷ [])) u e) [
          | inl h ↦ limits.over_comma which done p x made (subst (λ v. machine.fits which v ≡ true) (sym h.1) f)
          | inr h ↦ limits.over_end which done p x made (subst (λ v. machine.fits which v ≡ true) (sym h.1) f)
        ]

    fits_in : (which : Which) (done : List X) (p : P) (m : Mark) (u : Reading P X) (o : Option P) → machine.next p m ≡ o → in_item machine (at done p) m o ≡ Some u →
        machine.fits which u ≡ true → machine.fits which (at done p) ≡ true
    fits_in which done p m u (Some q) n e f =
        let is_u : at done q ≡ u = cc in limits.inside which done p q m n (subst (λ v. machine.fits which v ≡ true) (sym is_u) f)
    fits_in which done p m u None n e f =
        elim (machine.made p) as (λ o. machine.made p ≡ o → behind_item machine done m o ≡ Some u → machine.fits which (at done p) ≡ true) [
          | None ↦ λ h k. absurd cc
          | Some x ↦ λ h k. over_item which done p x m u h k f
        ] refl e

    fits_by : (which : Which) (b : Bool) (done : List X) (p : P) (m : Mark) (u : Reading P X) → next machine (record { done = done; place = p; has_ended = b }) m ≡ Some u →
        machine.fits which u ≡ true → machine.fits which (record { done = done; place = p; has_ended = b }) ≡ true
    fits_by which true done p m u e f = absurd cc
    fits_by which false done p m u e f = fits_in which done p m u (machine.next p m) refl e f

    -- a continuation that makes these marks a line, within each limit that fits
    abbrev Completes : Reading P X → List Mark → Type 0
    Completes s ms =
        (more : List Mark) × (ys : List Y) × IsLine (AreJoined Is) (ms ++ more) ys
        × ((which : Which) → machine.fits which s ≡ true → (keeps which ys ≡ true) × (marks_keep which more ≡ true))

    valued : (s : Reading P X) (ms more : List Mark) (xs : List X) → AreLiterals ms → ArePlain more → IsLine (Spelled spell) (ms ++ more) xs → AllGood Good xs →
        ((which : Which) → machine.fits which s ≡ true → machine.fits which (ended machine xs) ≡ true) → Completes s ms
    valued s ms more xs h k (inside, parts, (some, spelled)) good f =
        let whole : ms ++ more ≡ joined spell xs ++ the EndLine ∷ [] = parts ∙ ap (λ z. z ++ the EndLine ∷ []) spelled in
        let read = literals_front (joined spell xs) (the EndLine ∷ []) (subst AreLiterals whole (literals_append ms more h (plain_literals more k))) in
        let ys = joined_valued spell Is Value Good values xs good read in
        (more, ys.0, (joined spell xs, whole, joined_spells spell Is Value Good values xs ys.0 some good ys.1), λ which fits. (sym (limits.at_end which xs ys.0 ys.1) ∙ f which fits, plain_keep which more k))

    completed : (b : Bool) (done : List X) (p : P) (ms : List Mark) → AreLiterals ms → SaidBy b done p ms → Completes (record { done = done; place = p; has_ended = b }) ms
    completed true done p ms read h =
        valued (record { done = done; place = p; has_ended = true }) ms [] done read tt (joined spell done, append-nil ms ∙ h.1, (h.0, refl)) h.2 (λ which f. limits.ended_alike which done p f)
    completed false done p ms read h =
        let f = laws.finishes p in
        let xs = done ++ f.1 ∷ [] in
        let parts : ms ++ f.0 ≡ joined spell xs =
        ap (λ z. z ++ f.0) h.0 ∙ append_assoc (before spell done) (said p) f.0 ∙ ap (λ z. before spell done ++ z) f.2 ∙ sym (joined_last spell done f.1) in
        valued (at done p) ms (f.0 ++ the EndLine ∷ []) xs read (plain_append f.0 (the EndLine ∷ []) f.3 (refl, tt))
        (joined spell xs, sym (append_assoc ms f.0 (the EndLine ∷ [])) ∙ ap (λ z. z ++ the EndLine ∷ []) parts, (some_last done f.1, refl)) (good_more Good done f.1 h.1 (laws.finish_good p h.2)) (λ which fits. limits.finished which done p fits)

    pub line_laws : LineLaws (listed machine) Said (AreJoined Is) keeps
    unfolding before
    line_laws = record {
      start_said = (sym laws.at_start, tt, laws.start_fine);
      start_fits = limits.at_start;
      said_next = said_next;
      taken = line_taken;
      fits_before = λ which s u m e f. fits_by which s.has_ended s.done s.place m u e f;
      completes = λ s ms read h. completed s.has_ended s.done s.place ms read h;
    }

    -- what is read is spelled so, within all limits
    pub found : (u : Reading P X) (ts : List Placed) (ys : List Y) → AreLiterals (marks ts) → run (listed machine) (start_of machine) ts ≡ Ok u → u.has_ended ≡ true →
        AllValues Value u.done ys → IsLineWithin (AreJoined Is) keeps (marks ts) ys
    found u ts ys read e h v =
        let reads = reads_run (listed machine) Said (AreJoined Is) keeps line_laws (start_of machine) u ts [] (reads_start (listed machine) Said (AreJoined Is) keeps line_laws) read e in
        let line = ended_said u.has_ended u.done u.place (marks ts) h reads.said_so in
        let says : IsLine (AreJoined Is) (marks ts) ys = (joined spell u.done, line.0.1 ∙ ap (λ z. z ++ the EndLine ∷ []) line.0.2.1, joined_spells spell Is Value Good values u.done ys line.0.2.0 line.1 v) in
        line_within (listed machine) Said (AreJoined Is) keeps line_laws u ts ys read e says
        (λ which f. sym (limits.at_end which u.done ys v) ∙ limits.ended_alike which u.done u.place (subst (λ b. machine.fits which (record { done = u.done; place = u.place; has_ended = b }) ≡ true) h f))

    pub first_fault : (ts : List Placed) (e : LineFault) → AreLiterals (marks ts) → FailsSo e (run (listed machine) (start_of machine) ts) → IsLineFault (AreJoined Is) keeps ts e
    first_fault ts e read h = line_fault (listed machine) Said (AreJoined Is) keeps line_laws ts e read h

-- items that were read, with one more
pub values_more : {A X Y : Type 0} (Value : X → Y → Type 0) (f : A → X) (ts : List A) (n : ℕ) (other : A) (ys : List Y) (y : Y) → n < length ts →
    AllValues Value (map f (take n ts)) ys → Value (f (get_or ts n other)) y → AllValues Value (map f (take (suc n) ts)) (ys ++ y ∷ [])
values_more Value f [] n other ys y lt h v = absurd (omega arith)
values_more Value f (t ∷ ts) zero other [] y lt h v = (v, tt)
values_more Value f (t ∷ ts) zero other (z ∷ ys) y lt h v = absurd h
values_more Value f (t ∷ ts) (suc n) other [] y lt h v = absurd h
values_more Value f (t ∷ ts) (suc n) other (z ∷ ys) y lt h v = (h.0, values_more Value f ts n other ys y (omega arith) h.1 v)

pub values_whole : {A X Y : Type 0} (Value : X → Y → Type 0) (f : A → X) (ts : List A) (n : ℕ) (ys : List Y) → length ts ≤ n → AllValues Value (map f (take n ts)) ys →
    AllValues Value (map f ts) ys
values_whole Value f [] zero ys le h = h
values_whole Value f [] (suc n) ys le h = h
values_whole Value f (t ∷ ts) zero ys le h = absurd (omega arith)
values_whole Value f (t ∷ ts) (suc n) [] le h = absurd h
values_whole Value f (t ∷ ts) (suc n) (z ∷ ys) le h = (h.0, values_whole Value f ts n ys (omega arith) h.1)

pub if_ok : {A E : Type 0} (P Q : A → Type 0) (r : Result A E) → ((x : A) → P x → Q x) → IfOk r P → IfOk r Q
if_ok P Q (Ok x) f h = f x h
if_ok P Q (Err e) f h = h
