-- The entries of a table as the log has them: what is found, written, and taken out under a name.
use Rattle.std.proofs.Common.{◌≡◌, ℕ, List, [], ◌∷◌, ◌++◌, map, filter, find, Bool, true, false, not, cond, Option, Some, None, refl, sym, ap, ◌∙◌, subst, bytes_eq}
use Rattle.std.specs.Prelude.{All}
use Rattle.std.specs.List.{IsDistinct, AllByRecursion}
use Rattle.std.specs.Map.{keys_of, lookup, set_value, remove_entry}
use Rattle.std.proofs.lemmas.List.Elements.{All-nil, All-cons, All-head, All-tail}
use Rattle.std.proofs.lemmas.Slice.Eq.{bytes_eq-Decides}
use Rattle.run_specs.specs.Logs.{Sample}
use Rattle.run_specs.specs.declared.Verdict.{Verdict}
use Rattle.log_specs.specs.LogSessions.{LogSession, has_name, with_sample}
use Rattle.log_specs.specs.Blocks.{last_of, with_replies}
use Rattle.log_table.specs.Parts.{Opened, log_session_of, session_in, reply_in}

abbrev Entries : Type 0
Entries = List (List ℕ × Opened)

module _ (name : List ℕ) where
  by_name : List ℕ → Bool
  by_name key = bytes_eq name key

  same : (key : List ℕ) → bytes_eq name key ≡ true → name ≡ key
  same key e = (bytes_eq-Decides name key).0 e

  -- ---- what is found

  pub found : (es : Entries) (o : Opened) → lookup (bytes_eq name) es ≡ Some o → find (has_name name) (map session_in es) ≡ Some (log_session_of name o.session)
  found [] o e = absurd (let f : ⊥ = cc in f)
  found (x ∷ es) o e = by (bytes_eq name x.0) refl (found es o)
    where
      by : (b : Bool) → bytes_eq name x.0 ≡ b → (lookup (bytes_eq name) es ≡ Some o → find (has_name name) (map session_in es) ≡ Some (log_session_of name o.session)) → find (has_name name) (map session_in (x ∷ es)) ≡ Some (log_session_of name o.session)
      by true t go =
          let value : ◌≡◌ {A = Option Opened} (Some x.1) (Some o) = sym (ap (λ c. cond c (Some x.1) (lookup (bytes_eq name) es)) t) ∙ e in
          let key = same x.0 t in
          ap (λ c. cond c (Some (session_in x)) (find (has_name name) (map session_in es))) t
          ∙ ap (λ k. Some (log_session_of k x.1.session)) (sym key)
          ∙ ap (λ (q : Option Opened). elim q [ None ↦ None | Some w ↦ Some (log_session_of name w.session) ]) value
      by false t go =
          ap (λ c. cond c (Some (session_in x)) (find (has_name name) (map session_in es))) t
          ∙ go (sym (ap (λ c. cond c (Some x.1) (lookup (bytes_eq name) es)) t) ∙ e)

  pub missing : (es : Entries) → lookup (bytes_eq name) es ≡ None → find (has_name name) (map session_in es) ≡ None
  missing [] e = refl
  missing (x ∷ es) e = by (bytes_eq name x.0) refl (missing es)
    where
      by : (b : Bool) → bytes_eq name x.0 ≡ b → (lookup (bytes_eq name) es ≡ None → find (has_name name) (map session_in es) ≡ None) → find (has_name name) (map session_in (x ∷ es)) ≡ None
      by true t go = absurd (let v = sym (ap (λ c. cond c (Some x.1) (lookup (bytes_eq name) es)) t) ∙ e in let f : ⊥ = cc in f)
      by false t go =
          ap (λ c. cond c (Some (session_in x)) (find (has_name name) (map session_in es))) t
          ∙ go (sym (ap (λ c. cond c (Some x.1) (lookup (bytes_eq name) es)) t) ∙ e)

  pub last_found : (es : Entries) (o : Opened) → lookup (bytes_eq name) es ≡ Some o → last_of (map reply_in es) name ≡ o.last
  last_found [] o e = absurd (let f : ⊥ = cc in f)
  last_found (x ∷ es) o e = by (bytes_eq name x.0) refl (last_found es o)
    where
      by : (b : Bool) → bytes_eq name x.0 ≡ b → (lookup (bytes_eq name) es ≡ Some o → last_of (map reply_in es) name ≡ o.last) → last_of (map reply_in (x ∷ es)) name ≡ o.last
      by true t go =
          let value : ◌≡◌ {A = Option Opened} (Some x.1) (Some o) = sym (ap (λ c. cond c (Some x.1) (lookup (bytes_eq name) es)) t) ∙ e in
          cc (t, value)
      by false t go =
          let rest = go (sym (ap (λ c. cond c (Some x.1) (lookup (bytes_eq name) es)) t) ∙ e) in
          cc (t, rest)

  pub last_missing : (es : Entries) → lookup (bytes_eq name) es ≡ None → last_of (map reply_in es) name ≡ None
  last_missing [] e = refl
  last_missing (x ∷ es) e = by (bytes_eq name x.0) refl (last_missing es)
    where
      by : (b : Bool) → bytes_eq name x.0 ≡ b → (lookup (bytes_eq name) es ≡ None → last_of (map reply_in es) name ≡ None) → last_of (map reply_in (x ∷ es)) name ≡ None
      by true t go = absurd (let v = sym (ap (λ c. cond c (Some x.1) (lookup (bytes_eq name) es)) t) ∙ e in let f : ⊥ = cc in f)
      by false t go =
          let rest = go (sym (ap (λ c. cond c (Some x.1) (lookup (bytes_eq name) es)) t) ∙ e) in
          cc (t, rest)

  pub has_one : (P : Opened → Type 0) (es : Entries) (o : Opened) → lookup (bytes_eq name) es ≡ Some o → All (λ x. P x.1) es → P o
  has_one P [] o e h = absurd (let f : ⊥ = cc in f)
  has_one P (x ∷ es) o e h = by (bytes_eq name x.0) refl (has_one P es o)
    where
      by : (b : Bool) → bytes_eq name x.0 ≡ b → (lookup (bytes_eq name) es ≡ Some o → All (λ y. P y.1) es → P o) → P o
      by true t go =
          let value : ◌≡◌ {A = Option Opened} (Some x.1) (Some o) = sym (ap (λ c. cond c (Some x.1) (lookup (bytes_eq name) es)) t) ∙ e in
          let is : x.1 ≡ o = cc (value) in
          subst P is (All-head (λ y. P y.1) x es h)
      by false t go = go (sym (ap (λ c. cond c (Some x.1) (lookup (bytes_eq name) es)) t) ∙ e) (All-tail (λ y. P y.1) x es h)

  -- ---- what is written

  others_stay : (s : LogSession) (sample : Sample) → s.name ≡ name → (es : Entries) → AllByRecursion (λ k. bytes_eq name k ≡ false) (keys_of es) →
      map (with_sample s sample) (map session_in es) ≡ map session_in es
  others_stay s sample e [] h = refl
  others_stay s sample e (x ∷ es) h =
      let rest = others_stay s sample e es h.1 in
      let first = h.0 in
      cc (rest, first, e)

  replies_stay : (vs : List Verdict) (es : Entries) → AllByRecursion (λ k. bytes_eq name k ≡ false) (keys_of es) →
      map (with_replies name vs) (map reply_in es) ≡ map reply_in es
  replies_stay vs [] h = refl
  replies_stay vs (x ∷ es) h =
      let rest = replies_stay vs es h.1 in
      let first = h.0 in
      cc (rest, first)

  -- no key after one that is the name is the name
  alone : (key : List ℕ) (es : Entries) → bytes_eq name key ≡ true → AllByRecursion (λ k. bytes_eq key k ≡ false) (keys_of es) →
      AllByRecursion (λ k. bytes_eq name k ≡ false) (keys_of es)
  alone key es t h = subst (λ n. AllByRecursion (λ k. bytes_eq n k ≡ false) (keys_of es)) (sym (same key t)) h

  pub written_sessions : (o w : Opened) (sample : Sample) →
      log_session_of name w.session ≡ record (log_session_of name o.session) { samples = o.session.log ++ sample ∷ [] } →
      (es : Entries) → IsDistinct bytes_eq (keys_of es) → lookup (bytes_eq name) es ≡ Some o →
      map session_in (set_value (bytes_eq name) es w) ≡ map (with_sample (log_session_of name o.session) sample) (map session_in es)
  unfolding IsDistinct
  written_sessions o w sample e [] d f = refl
  written_sessions o w sample e (x ∷ es) d f = by (bytes_eq name x.0) refl (written_sessions o w sample e es)
    where
      by : (b : Bool) → bytes_eq name x.0 ≡ b → (IsDistinct bytes_eq (keys_of es) → lookup (bytes_eq name) es ≡ Some o → map session_in (set_value (bytes_eq name) es w) ≡ map (with_sample (log_session_of name o.session) sample) (map session_in es)) →
          map session_in (set_value (bytes_eq name) (x ∷ es) w) ≡ map (with_sample (log_session_of name o.session) sample) (map session_in (x ∷ es))
      by true t go =
          let key = same x.0 t in
          let rest = others_stay (log_session_of name o.session) sample refl es (alone x.0 es t d.0) in
          cc (t, key, rest, e)
      by false t go =
          let rest = go d.1 (sym (ap (λ c. cond c (Some x.1) (lookup (bytes_eq name) es)) t) ∙ f) in
          cc (t, rest)

  pub written_replies : (o w : Opened) (v : Verdict) → w.last ≡ Some v → (es : Entries) → IsDistinct bytes_eq (keys_of es) → lookup (bytes_eq name) es ≡ Some o →
      map reply_in (set_value (bytes_eq name) es w) ≡ map (with_replies name (v ∷ [])) (map reply_in es)
  unfolding IsDistinct
  written_replies o w v e [] d f = refl
  written_replies o w v e (x ∷ es) d f = by (bytes_eq name x.0) refl (written_replies o w v e es)
    where
      by : (b : Bool) → bytes_eq name x.0 ≡ b → (IsDistinct bytes_eq (keys_of es) → lookup (bytes_eq name) es ≡ Some o → map reply_in (set_value (bytes_eq name) es w) ≡ map (with_replies name (v ∷ [])) (map reply_in es)) →
          map reply_in (set_value (bytes_eq name) (x ∷ es) w) ≡ map (with_replies name (v ∷ [])) (map reply_in (x ∷ es))
      by true t go =
          let rest = replies_stay (v ∷ []) es (alone x.0 es t d.0) in
          cc (t, rest, e)
      by false t go =
          let rest = go d.1 (sym (ap (λ c. cond c (Some x.1) (lookup (bytes_eq name) es)) t) ∙ f) in
          cc (t, rest)

  pub written_there : (o w : Opened) (es : Entries) → lookup (bytes_eq name) es ≡ Some o → lookup (bytes_eq name) (set_value (bytes_eq name) es w) ≡ Some w
  written_there o w [] e = absurd (let f : ⊥ = cc in f)
  written_there o w (x ∷ es) e = by (bytes_eq name x.0) refl (written_there o w es)
    where
      by : (b : Bool) → bytes_eq name x.0 ≡ b → (lookup (bytes_eq name) es ≡ Some o → lookup (bytes_eq name) (set_value (bytes_eq name) es w) ≡ Some w) →
          lookup (bytes_eq name) (set_value (bytes_eq name) (x ∷ es) w) ≡ Some w
      by true t go = cc (t)
      by false t go =
          let rest = go (sym (ap (λ c. cond c (Some x.1) (lookup (bytes_eq name) es)) t) ∙ e) in
          cc (t, rest)

  pub unwritten : (es : Entries) (o : Opened) → lookup (bytes_eq name) es ≡ Some o → set_value (bytes_eq name) es o ≡ es
  unwritten [] o f = refl
  unwritten (x ∷ es) o f = by (bytes_eq name x.0) refl (unwritten es o)
    where
      by : (b : Bool) → bytes_eq name x.0 ≡ b → (lookup (bytes_eq name) es ≡ Some o → set_value (bytes_eq name) es o ≡ es) → set_value (bytes_eq name) (x ∷ es) o ≡ x ∷ es
      by true t go =
          let value : ◌≡◌ {A = Option Opened} (Some x.1) (Some o) = sym (ap (λ c. cond c (Some x.1) (lookup (bytes_eq name) es)) t) ∙ f in
          let is : x.1 ≡ o = cc (value) in
          ap (λ c. cond c ((x.0, o) ∷ es) (x ∷ set_value (bytes_eq name) es o)) t ∙ ap (λ w. (x.0, w) ∷ es) (sym is)
      by false t go =
          let rest = go (sym (ap (λ c. cond c (Some x.1) (lookup (bytes_eq name) es)) t) ∙ f) in
          cc (t, rest)

  -- ---- what is taken out

  all_stay : (es : Entries) → AllByRecursion (λ k. bytes_eq name k ≡ false) (keys_of es) → filter (λ s. not (has_name name s)) (map session_in es) ≡ map session_in es
  all_stay [] h = refl
  all_stay (x ∷ es) h =
      let rest = all_stay es h.1 in
      let first = h.0 in
      cc (rest, first)

  all_replies_stay : (es : Entries) → AllByRecursion (λ k. bytes_eq name k ≡ false) (keys_of es) → filter (λ r. not (bytes_eq name r.session)) (map reply_in es) ≡ map reply_in es
  all_replies_stay [] h = refl
  all_replies_stay (x ∷ es) h =
      let rest = all_replies_stay es h.1 in
      let first = h.0 in
      cc (rest, first)

  pub removed_sessions : (es : Entries) → IsDistinct bytes_eq (keys_of es) →
      map session_in (remove_entry (bytes_eq name) es) ≡ filter (λ s. not (has_name name s)) (map session_in es)
  unfolding IsDistinct
  removed_sessions [] d = refl
  removed_sessions (x ∷ es) d = by (bytes_eq name x.0) refl (removed_sessions es)
    where
      by : (b : Bool) → bytes_eq name x.0 ≡ b → (IsDistinct bytes_eq (keys_of es) → map session_in (remove_entry (bytes_eq name) es) ≡ filter (λ s. not (has_name name s)) (map session_in es)) →
          map session_in (remove_entry (bytes_eq name) (x ∷ es)) ≡ filter (λ s. not (has_name name s)) (map session_in (x ∷ es))
      by true t go =
          let rest = all_stay es (alone x.0 es t d.0) in
          cc (t, rest)
      by false t go =
          let rest = go d.1 in
          cc (t, rest)

  pub removed_replies : (es : Entries) → IsDistinct bytes_eq (keys_of es) →
      map reply_in (remove_entry (bytes_eq name) es) ≡ filter (λ r. not (bytes_eq name r.session)) (map reply_in es)
  unfolding IsDistinct
  removed_replies [] d = refl
  removed_replies (x ∷ es) d = by (bytes_eq name x.0) refl (removed_replies es)
    where
      by : (b : Bool) → bytes_eq name x.0 ≡ b → (IsDistinct bytes_eq (keys_of es) → map reply_in (remove_entry (bytes_eq name) es) ≡ filter (λ r. not (bytes_eq name r.session)) (map reply_in es)) →
          map reply_in (remove_entry (bytes_eq name) (x ∷ es)) ≡ filter (λ r. not (bytes_eq name r.session)) (map reply_in (x ∷ es))
      by true t go =
          let rest = all_replies_stay es (alone x.0 es t d.0) in
          cc (t, rest)
      by false t go =
          let rest = go d.1 in
          cc (t, rest)

  -- ---- what holds of each entry

  module _ (P Q : Opened → Type 0) (goes : (o : Opened) → P o → Q o) where
    all_go : (es : Entries) → All (λ x. P x.1) es → All (λ x. Q x.1) es
    all_go es h = λ i d lt. goes _ (h i d lt)

    pub all_written : (w : Opened) → Q w → (es : Entries) → All (λ x. P x.1) es → All (λ x. Q x.1) (set_value (bytes_eq name) es w)
    all_written w q [] h = All-nil (λ x. Q x.1)
    all_written w q (x ∷ es) h = by (bytes_eq name x.0) refl (all_written w q es)
      where
        tail : All (λ y. P y.1) es
        tail = All-tail (λ y. P y.1) x es h

        by : (b : Bool) → bytes_eq name x.0 ≡ b → (All (λ x. P x.1) es → All (λ x. Q x.1) (set_value (bytes_eq name) es w)) → All (λ y. Q y.1) (set_value (bytes_eq name) (x ∷ es) w)
        by true t go = subst (λ c. All (λ y. Q y.1) (cond c ((x.0, w) ∷ es) (x ∷ set_value (bytes_eq name) es w))) (sym t) (All-cons (λ y. Q y.1) (x.0, w) es q (all_go es tail))
        by false t go = subst (λ c. All (λ y. Q y.1) (cond c ((x.0, w) ∷ es) (x ∷ set_value (bytes_eq name) es w))) (sym t)
            (All-cons (λ y. Q y.1) x (set_value (bytes_eq name) es w) (goes x.1 (All-head (λ y. P y.1) x es h)) (go tail))

  pub all_left : (P : Opened → Type 0) (es : Entries) → All (λ x. P x.1) es → All (λ x. P x.1) (remove_entry (bytes_eq name) es)
  all_left P [] h = h
  all_left P (x ∷ es) h = by (bytes_eq name x.0) refl (all_left P es)
    where
      tail : All (λ y. P y.1) es
      tail = All-tail (λ y. P y.1) x es h

      by : (b : Bool) → bytes_eq name x.0 ≡ b → (All (λ x. P x.1) es → All (λ x. P x.1) (remove_entry (bytes_eq name) es)) → All (λ y. P y.1) (remove_entry (bytes_eq name) (x ∷ es))
      by true t go = subst (λ c. All (λ y. P y.1) (cond c es (x ∷ remove_entry (bytes_eq name) es))) (sym t) tail
      by false t go = subst (λ c. All (λ y. P y.1) (cond c es (x ∷ remove_entry (bytes_eq name) es))) (sym t)
          (All-cons (λ y. P y.1) x (remove_entry (bytes_eq name) es) (All-head (λ y. P y.1) x es h) (go tail))
