-- Reading a line a token at a time finds what it says, or its first fault.
use Rattle.std.proofs.Common.{◌≡◌, inl, inr, ℕ, ◌≤◌, Bool, true, false, not, ◌&&◌, List, [], ◌∷◌, ◌++◌, Option, Some, None, Result, Ok, Err, refl, sym, ap, ◌∙◌, subst, append_assoc}
use Rattle.std.proofs.lemmas.List.{append-nil, map-append}
use Rattle.lang_specs.specs.declared.Which.{Which}
use Rattle.lang_specs.specs.declared.Kind.TheVariants.{EndLine}
use Rattle.lang_specs.specs.Tokens.{Placed}
use Rattle.lang_specs.specs.Marks.{Mark, mark, the}
use Rattle.lang_specs.specs.Limits.{rank}
use Rattle.lang_specs.specs.FirstFault.{is_joint}
use Rattle.lang_tokens.specs.declared.faults.Stop.{Stop}
use Rattle.lang_tokens.specs.declared.faults.Stop.TheVariants.{Syntax, Limit}
use Rattle.lang_tokens.specs.declared.faults.LineFault.{LineFault}
use Rattle.lang_tokens.specs.declared.faults.LineFault.TheVariants as faults
use Rattle.lang_tokens.specs.Machines.{LineMachine, token_keeps, fits_on, is_passed, limits, passed, unless, allowed, step, Stopped, and_then, run}
use Rattle.lang_tokens.specs.LineFaults.{marks, AreLiterals, IsLine, IsViableLine, Keeping, marks_keep, IsLineWithin, IsViableLineWithin, HasLineKept, HasLineKeptAll, IsFirstLineFault, IsLineFault}
use Rattle.lang_tokens.specs.Gives.{FailsSo}
use Rattle.lang_tokens.proofs.LiteralMarks.{literals_front}
use Rattle.lang_tokens.proofs.LimitLemmas.{either, both_so, not_false, not_true, keep_append, keep_one, keep_at, joint_keeps, none_passed, one_passed, first_passed, last_same, split_last}
use Rattle.lang_tokens.proofs.Walks.{both, IsClean, mark_is_clean, walk, and_walk, walk_on, walk_more, walk_stopped}

-- What is said of a machine that reads such lines: what was read up to a state; each line is taken, and where it keeps to a
-- limit, the state behind it fits; a state from which a limit can be kept lies behind such states only; each state can be
-- completed to a line that keeps all limits which fit it.
pub record LineLaws {S Y : Type 0} (machine : LineMachine S) (Said : S → List Mark → Type 0) (Is : List Mark → Y → Type 0) (keeps : Keeping Y) : Type 0 where
  pub start_said : Said machine.start []
  pub start_fits : (which : Which) → machine.fits which machine.start ≡ true
  pub said_next : (s u : S) (m : Mark) (ms : List Mark) → IsClean m → Said s ms → machine.next s m ≡ Some u → Said u (ms ++ m ∷ [])
  pub taken : (ms : List Mark) (y : Y) → IsLine Is ms y →
      (u : S) × (walk machine.next machine.start ms ≡ Some u) × ((which : Which) → keeps which y ≡ true → machine.fits which u ≡ true)
  pub fits_before : (which : Which) (s u : S) (m : Mark) → machine.next s m ≡ Some u → machine.fits which u ≡ true → machine.fits which s ≡ true
  pub completes : (s : S) (ms : List Mark) → AreLiterals ms → Said s ms →
      (more : List Mark) × (y : Y) × IsLine Is (ms ++ more) y × ((which : Which) → machine.fits which s ≡ true → (keeps which y ≡ true) × (marks_keep which more ≡ true))

is_syntax : Stop → Bool
is_syntax Syntax = true
is_syntax (Limit which) = false

limit_apart : (which : Which) → Limit which ≡ Syntax → ⊥
unfolding is_syntax
limit_apart which e = let b : false ≡ true = ap is_syntax e in cc

err_is : (A : Type 0) (x y : Stop) → (let r : Result A Stop = Err x in r ≡ Err y) → x ≡ y
err_is A x y e = cc

which_is : (x y : Which) → Limit x ≡ Limit y → x ≡ y
which_is x y e = cc

none_apart : {A : Type 0} (x : A) → None ≡ Some x → ⊥
none_apart x e = cc

-- a limit that is kept at a token, and a limit that is not
kept_is : (a b : Bool) → not (a && b) ≡ false → (a ≡ true) × (b ≡ true)
kept_is a b e = both a b (not_false (a && b) e)

passed_not : (a b : Bool) → not (a && b) ≡ true → a ≡ true → b ≡ true → ⊥
passed_not a b e h k = not_true (a && b) e (both_so a b h k)

fits_behind : (before behind : Bool) (m : Mark) → behind ≡ true → fits_on before behind m ≡ true
fits_behind before true m h = refl
fits_behind before false m h = absurd cc

fits_joint : (before behind : Bool) (m : Mark) → is_joint m.kind ≡ true → before ≡ true → fits_on before behind m ≡ true
fits_joint before true m h k = refl
fits_joint before false m h k = both_so (is_joint m.kind) before h k

end_is_no_joint : (m : Mark) → the EndLine ≡ m → is_joint m.kind ≡ true → ⊥
end_is_no_joint m e h = let no : false ≡ true = ap (λ x. is_joint x.kind) e ∙ h in cc

module _ {S : Type 0} (machine : LineMachine S) where
  unless_ok : (w : Option Which) (u v : S) → unless w u ≡ Ok v → (u ≡ v) × (w ≡ None)
  unless_ok None u v e = (cc, refl)
  unless_ok (Some which) u v e = absurd cc

  allowed_ok : (s v : S) (m : Mark) (o : Option S) → allowed machine s m o ≡ Ok v → (o ≡ Some v) × (passed machine s v m ≡ None)
  allowed_ok s v m None e = absurd cc
  allowed_ok s v m (Some u) e = let h = unless_ok (passed machine s u m) u v e in (ap Some h.0, subst (λ z. passed machine s z m ≡ None) h.0 h.1)

  unless_err : (w : Option Which) (u : S) (why : Stop) → unless w u ≡ Err why → (which : Which) × (w ≡ Some which) × (why ≡ Limit which)
  unless_err None u why e = absurd cc
  unless_err (Some which) u why e = (which, refl, sym (err_is S (Limit which) why e))

  allowed_syntax : (s : S) (m : Mark) (o : Option S) → allowed machine s m o ≡ Err Syntax → o ≡ None
  allowed_syntax s m None e = refl
  allowed_syntax s m (Some u) e = let h = unless_err (passed machine s u m) u Syntax e in absurd (limit_apart h.0 (sym h.2))

  allowed_limit : (s : S) (m : Mark) (o : Option S) (which : Which) → allowed machine s m o ≡ Err (Limit which) → (u : S) × (o ≡ Some u) × (passed machine s u m ≡ Some which)
  allowed_limit s m None which e = absurd (limit_apart which (sym (err_is S Syntax (Limit which) e)))
  allowed_limit s m (Some u) which e =
      let h = unless_err (passed machine s u m) u (Limit which) e in (u, refl, h.1 ∙ ap Some (sym (which_is which h.0 h.2)))

  then_ok : (t : Placed) (r : Result S Stop) (f : S → Result S Stopped) (u : S) → and_then t r f ≡ Ok u → (v : S) × (r ≡ Ok v) × (f v ≡ Ok u)
  then_ok t (Ok v) f u e = (v, refl, e)
  then_ok t (Err w) f u e = absurd cc

  -- where a run stops
  pub record RunStops (s : S) (ts : List Placed) (stopped : Stopped) : Type 0 where
    pub front : List Placed
    pub rest : List Placed
    pub state : S
    pub parts : ts ≡ front ++ stopped.token ∷ rest
    pub before_it : run machine s front ≡ Ok state
    pub at_it : step machine state stopped.token ≡ Err stopped.why

  pub run_stops : (s : S) (ts : List Placed) (stopped : Stopped) → run machine s ts ≡ Err stopped → RunStops s ts stopped
  unfolding run
  run_stops s [] stopped e = absurd cc
  run_stops s (t ∷ ts) stopped e =
      elim (step machine s t) as (λ r. step machine s t ≡ r → and_then t r (λ u. run machine u ts) ≡ Err stopped → RunStops s (t ∷ ts) stopped) [
        | Ok v ↦ λ h k.
            let more = run_stops v ts stopped k in
            record {
              front = t ∷ more.front;
              rest = more.rest;
              state = more.state;
              parts = ap (λ z. t ∷ z) more.parts;
              before_it = ap (λ r. and_then t r (λ u. run machine u more.front)) h ∙ more.before_it;
              at_it = more.at_it;
            }
        | Err w ↦ λ h k.
            let same : record { token = t; why = w } ≡ stopped = cc in
            subst (RunStops s (t ∷ ts)) same (record { front = []; rest = ts; state = s; parts = refl; before_it = refl; at_it = h })
      ] refl e

module _ {S Y : Type 0} (machine : LineMachine S) (Said : S → List Mark → Type 0) (Is : List Mark → Y → Type 0) (keeps : Keeping Y) (laws : LineLaws machine Said Is keeps) where
  -- what is known of a state that reading comes to without a fault
  pub record Reads (s : S) (ms : List Mark) : Type 0 where
    pub said_so : Said s ms
    pub walked : walk machine.next machine.start ms ≡ Some s
    pub tokens_kept : (which : Which) → marks_keep which ms ≡ true
    pub kept : HasLineKeptAll Is keeps ms

  fits_walk : (which : Which) (s u : S) (ms : List Mark) → walk machine.next s ms ≡ Some u → machine.fits which u ≡ true → machine.fits which s ≡ true
  unfolding walk and_walk
  fits_walk which s u [] e h = let same : s ≡ u = cc in subst (λ v. machine.fits which v ≡ true) (sym same) h
  fits_walk which s u (m ∷ ms) e h =
      elim (machine.next s m) as (λ o. machine.next s m ≡ o → and_walk o (λ v. walk machine.next v ms) ≡ Some u → machine.fits which s ≡ true) [
        | None ↦ λ n w. absurd cc
        | Some v ↦ λ n w. laws.fits_before which s v m n (fits_walk which v u ms w h)
      ] refl e

  within_fits : (which : Which) (s : S) (ms : List Mark) → walk machine.next machine.start ms ≡ Some s → IsViableLineWithin Is keeps which ms → machine.fits which s ≡ true
  within_fits which s ms w (more, y, line, k, h) =
      let t = laws.taken (ms ++ more) y line in
      fits_walk which s t.0 more (sym (walk_on machine.next machine.start s ms more w) ∙ t.1) (t.2 which k)

  fits_within : (which : Which) (s : S) (ms : List Mark) → AreLiterals ms → Said s ms → marks_keep which ms ≡ true → machine.fits which s ≡ true →
      IsViableLineWithin Is keeps which ms
  fits_within which s ms read said_so k f =
      let c = laws.completes s ms read said_so in
      (c.0, c.1, c.2, (c.3 which f).0, keep_append which ms c.0 k (c.3 which f).1)

  viable_said : (s : S) (ms : List Mark) → AreLiterals ms → Said s ms → IsViableLine Is ms
  viable_said s ms read said_so = let c = laws.completes s ms read said_so in (c.0, c.1, c.2)

  module _ (s u : S) (m : Mark) (ms : List Mark) (reads : Reads s ms) (goes : machine.next s m ≡ Some u) where
    -- what the machine takes for kept is kept
    kept_next : (which : Which) → AreLiterals (ms ++ m ∷ []) → IsClean m → is_passed machine s u m which ≡ false → HasLineKept Is keeps which (ms ++ m ∷ [])
    kept_next which read c e =
        let h = kept_is (fits_on (machine.fits which s) (machine.fits which u) m) (token_keeps which m) e in
        elim (either (machine.fits which u) (is_joint m.kind) (machine.fits which s) h.0) [
          | inl f ↦ inl (fits_within which u (ms ++ m ∷ []) read (laws.said_next s u m ms c reads.said_so goes)
              (keep_append which ms (m ∷ []) (reads.tokens_kept which) (keep_one which m h.1)) f)
          | inr f ↦ inr (record {
            front = ms;
            joint = m;
            parts = refl;
            joins = f.0;
            before = fits_within which s ms (literals_front ms (m ∷ []) read) reads.said_so (reads.tokens_kept which) f.1;
          })
        ]

    -- and what it takes for passed is passed
    passed_next : (which : Which) → is_passed machine s u m which ≡ true → HasLineKept Is keeps which (ms ++ m ∷ []) → ⊥
    passed_next which e (inl v) =
        let fits = within_fits which u (ms ++ m ∷ []) (walk_more machine.next machine.start s ms m reads.walked ∙ goes) v in
        passed_not (fits_on (machine.fits which s) (machine.fits which u) m) (token_keeps which m) e (fits_behind (machine.fits which s) (machine.fits which u) m fits)
        (keep_at which ms v.0 m v.4)
    passed_next which e (inr j) =
        let same = last_same ms j.front m j.joint j.parts in
        let joins : is_joint m.kind ≡ true = subst (λ x. is_joint x.kind ≡ true) (sym same.1) j.joins in
        let fits = within_fits which s ms reads.walked (subst (IsViableLineWithin Is keeps which) (sym same.0) j.before) in
        passed_not (fits_on (machine.fits which s) (machine.fits which u) m) (token_keeps which m) e (fits_joint (machine.fits which s) (machine.fits which u) m joins fits)
        (joint_keeps which m joins)

    kept_by : ((which : Which) → HasLineKept Is keeps which (ms ++ m ∷ [])) → HasLineKeptAll Is keeps (ms ++ m ∷ [])
    kept_by k front rest which e =
        elim (split_last ms m front rest e) [
          | inl h ↦ subst (HasLineKept Is keeps which) (sym h) (k which)
          | inr h ↦ reads.kept front h.0 which h.1
        ]

    pub reads_next : AreLiterals (ms ++ m ∷ []) → IsClean m → passed machine s u m ≡ None → Reads u (ms ++ m ∷ [])
    reads_next read c e =
        let none = none_passed (is_passed machine s u m) e in
        record {
          said_so = laws.said_next s u m ms c reads.said_so goes;
          walked = walk_more machine.next machine.start s ms m reads.walked ∙ goes;
          tokens_kept = λ which. keep_append which ms (m ∷ []) (reads.tokens_kept which)
              (keep_one which m (kept_is (fits_on (machine.fits which s) (machine.fits which u) m) (token_keeps which m) (none which)).1);
          kept = kept_by (λ which. kept_next which read c (none which));
        }

  start_kept : (front rest : List Mark) (which : Which) → [] ≡ front ++ rest → HasLineKept Is keeps which front
  start_kept [] rest which e = inl (fits_within which machine.start [] tt laws.start_said refl (laws.start_fits which))
  start_kept (m ∷ front) rest which e = absurd cc

  pub reads_start : Reads machine.start []
  unfolding walk
  reads_start = record { said_so = laws.start_said; walked = refl; tokens_kept = λ which. refl; kept = start_kept }

  pub reads_run : (s u : S) (ts : List Placed) (ms : List Mark) → Reads s ms → AreLiterals (ms ++ marks ts) → run machine s ts ≡ Ok u → Reads u (ms ++ marks ts)
  unfolding run
  reads_run s u [] ms h read e = let same : s ≡ u = cc in subst (λ v. Reads v (ms ++ [])) same (subst (Reads s) (sym (append-nil ms)) h)
  reads_run s u (t ∷ ts) ms h read e =
      let o = then_ok machine t (step machine s t) (λ v. run machine v ts) u e in
      let n = allowed_ok machine s o.0 (mark t) (machine.next s (mark t)) o.1 in
      let parts : ms ++ marks (t ∷ ts) ≡ (ms ++ mark t ∷ []) ++ marks ts = sym (append_assoc ms (mark t ∷ []) (marks ts)) in
      let literals = subst AreLiterals parts read in
      let more = reads_next s o.0 (mark t) ms h n.0 (literals_front (ms ++ mark t ∷ []) (marks ts) literals) (mark_is_clean t) n.1 in
      subst (Reads u) (sym parts) (reads_run o.0 u ts (ms ++ mark t ∷ []) more literals o.2)

  -- ---- faults

  none_walks : (ms : List Mark) → walk machine.next machine.start ms ≡ None → IsViableLine Is ms → ⊥
  none_walks ms e v =
      let t = laws.taken (ms ++ v.0) v.1 v.2 in
      none_apart t.0 (sym (walk_stopped machine.next machine.start ms v.0 e) ∙ t.1)

  literals_of : (ts front rest : List Placed) → ts ≡ front ++ rest → AreLiterals (marks ts) → AreLiterals (marks front)
  literals_of ts front rest e h = literals_front (marks front) (marks rest) (subst AreLiterals (ap marks e ∙ map-append mark front rest) h)

  marks_to : (front : List Placed) (t : Placed) → marks (front ++ t ∷ []) ≡ marks front ++ mark t ∷ []
  marks_to front t = map-append mark front (t ∷ [])

  -- the token where a run stops for no limit is the first that no continuation allows
  refused : (ts : List Placed) (t : Placed) (column : ℕ) → AreLiterals (marks ts) → run machine machine.start ts ≡ Err (record { token = t; why = Syntax }) → column ≡ t.column →
      IsFirstLineFault Is keeps ts (faults.Syntax column)
  refused ts t column read e is =
      let stop = run_stops machine machine.start ts (record { token = t; why = Syntax }) e in
      let before = literals_of ts stop.front (t ∷ stop.rest) stop.parts read in
      let reads = reads_run machine.start stop.state stop.front [] reads_start before stop.before_it in
      let no = allowed_syntax machine stop.state (mark t) (machine.next stop.state (mark t)) stop.at_it in
      let ends : walk machine.next machine.start (marks (stop.front ++ t ∷ [])) ≡ None =
      ap (walk machine.next machine.start) (marks_to stop.front t) ∙ walk_more machine.next machine.start stop.state (marks stop.front) (mark t) reads.walked ∙ no in
      record {
        front = stop.front;
        token = t;
        rest = stop.rest;
        parts = stop.parts;
        viable = viable_said stop.state (marks stop.front) before reads.said_so;
        kept = reads.kept;
        wrong = (none_walks (marks (stop.front ++ t ∷ [])) ends, is);
      }

  passes_at : (s u : S) (m : Mark) (ms : List Mark) (which : Which) → Reads s ms → machine.next s m ≡ Some u → AreLiterals (ms ++ m ∷ []) → IsClean m →
      passed machine s u m ≡ Some which → (other : Which) → (HasLineKept Is keeps other (ms ++ m ∷ []) → ⊥) → rank which ≤ rank other
  passes_at s u m ms which reads goes read c e other unkept =
      elim (is_passed machine s u m other) as (λ b. is_passed machine s u m other ≡ b → rank which ≤ rank other) [
        | true ↦ λ h. first_passed (is_passed machine s u m) which e other h
        | false ↦ λ h. absurd (unkept (kept_next s u m ms reads goes other read c h))
      ] refl

  -- where a run stops for a limit, some continuation allows the token, and it passes the limit
  over : (ts : List Placed) (t : Placed) (which : Which) → AreLiterals (marks ts) → run machine machine.start ts ≡ Err (record { token = t; why = Limit which }) →
      IsFirstLineFault Is keeps ts (faults.Limit which)
  over ts t which read e =
      let stop = run_stops machine machine.start ts (record { token = t; why = Limit which }) e in
      let before = literals_of ts stop.front (t ∷ stop.rest) stop.parts read in
      let reads = reads_run machine.start stop.state stop.front [] reads_start before stop.before_it in
      let on = allowed_limit machine stop.state (mark t) (machine.next stop.state (mark t)) which stop.at_it in
      let literals = subst AreLiterals (marks_to stop.front t) (literals_of ts (stop.front ++ t ∷ []) stop.rest (stop.parts ∙ sym (append_assoc stop.front (t ∷ []) stop.rest)) read) in
      let said_so = laws.said_next stop.state on.0 (mark t) (marks stop.front) (mark_is_clean t) reads.said_so on.1 in
      let is_over = one_passed (is_passed machine stop.state on.0 (mark t)) limits which on.2 in
      record {
        front = stop.front;
        token = t;
        rest = stop.rest;
        parts = stop.parts;
        viable = viable_said stop.state (marks stop.front) before reads.said_so;
        kept = reads.kept;
        wrong = subst (λ ms. IsViableLine Is ms × (HasLineKept Is keeps which ms → ⊥) × ((other : Which) → (HasLineKept Is keeps other ms → ⊥) → rank which ≤ rank other)) (sym (marks_to stop.front t)) (
          viable_said on.0 (marks stop.front ++ mark t ∷ []) literals said_so,
          passed_next stop.state on.0 (mark t) (marks stop.front) reads on.1 which is_over,
          passes_at stop.state on.0 (mark t) (marks stop.front) which reads on.1 literals (mark_is_clean t) on.2,
        );
      }

  pub line_fault : (ts : List Placed) (e : LineFault) → AreLiterals (marks ts) → FailsSo e (run machine machine.start ts) → IsLineFault Is keeps ts e
  line_fault ts faults.Memory read h = tt
  line_fault ts (faults.Syntax column) read (t, e, is) = refused ts t column read e is
  line_fault ts (faults.Limit which) read (t, e) = over ts t which read e

  -- ---- what a line says

  -- behind a whole line every limit is kept
  pub all_kept : (u : S) (ts : List Placed) (y : Y) → AreLiterals (marks ts) → run machine machine.start ts ≡ Ok u → IsLine Is (marks ts) y → (which : Which) → machine.fits which u ≡ true
  all_kept u ts y read e line which =
      let reads = reads_run machine.start u ts [] reads_start read e in
      elim (reads.kept (marks ts) [] which (sym (append-nil (marks ts)))) [
        | inl v ↦ within_fits which u (marks ts) reads.walked v
        | inr j ↦ absurd (end_is_no_joint j.joint (last_same line.0 j.front (the EndLine) j.joint (sym line.1 ∙ j.parts)).1 j.joins)
      ]

  -- what is read is said within all limits
  pub line_within : (u : S) (ts : List Placed) (y : Y) → AreLiterals (marks ts) → run machine machine.start ts ≡ Ok u → IsLine Is (marks ts) y →
      ((which : Which) → machine.fits which u ≡ true → keeps which y ≡ true) → IsLineWithin Is keeps (marks ts) y
  line_within u ts y read e line k = record {
    is = line;
    kept = λ which. k which (all_kept u ts y read e line which);
    tokens_kept = (reads_run machine.start u ts [] reads_start read e).tokens_kept;
  }
