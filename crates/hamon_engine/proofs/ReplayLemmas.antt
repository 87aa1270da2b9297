-- What a replay does, by what its parts say.
use Rattle.std.proofs.Common.{◌≡◌, ◌≢◌, ◌⊎◌, inl, inr, ℕ, ◌<◌, ◌≤◌, List, [], length, Option, None, Some, refl, sym, ◌∙◌, subst, arith}
use Rattle.std.specs.Prelude.{IfSome}
use Rattle.mon_io.specs.Faults.{Rose}
use Rattle.run_specs.specs.Automaton.{Automaton}
use Rattle.report_loop.specs.declared.status.Status.{Status}
use Rattle.report_loop.specs.declared.status.Status.TheVariants as status
use Rattle.report_loop.specs.Outcome.{Streams}
use Rattle.report_loop.proofs.WriteLemmas.{rose_before}
use Rattle.replay_log.specs.Replays.{SaysReplay, text_limit}
use Rattle.hamon_engine.specs.Outside.{Outside}
use Rattle.hamon_engine.specs.ReplayRuns.{IsLongLog, HasNoLog, ReplaysOn, Replays, IsReplayUndisturbed, IsReplayed, CompletesReplay, HasReplayCause}
use Rattle.hamon_engine.specs.Telling.{IsToldAlone}

abbrev outside : Streams → (List ℕ → Option (List ℕ)) → ℕ → Outside
outside s t f = record { streams = s; shelf = t; shelf_faults = f }

-- what holds of the text is known of the text that is told
is_long : (o : Option (List ℕ)) (text : List ℕ) → IfSome o (λ t. text ≡ t) → text_limit < length text → IsLongLog o
is_long None text e lt = tt
is_long (Some t) text e lt = subst (λ z. text_limit < length z) e lt

module _ (a : Automaton) (k : ℕ) (told : Option (List ℕ)) where
  -- ---- the status needs no text to tell its cause

  says_alone : (log : List ℕ) (before now : Streams) (x : Status) → SaysReplay a k log before now x → IsToldAlone x
  says_alone log before now status.Model says = says
  says_alone log before now status.SavedText says = says
  says_alone log before now _ says = tt

  pub replay_alone : (before now : Outside) (x : Status) → Replays a k told before now x → IsToldAlone x
  replay_alone before now x (inl on) = says_alone on.text before.streams now.streams x on.says
  replay_alone before now x (inr none) = elim none.why [
    | inl w ↦ subst IsToldAlone (sym w.0) tt
    | inr w ↦ elim w [ inl l ↦ subst IsToldAlone (sym l.0) tt | inr e ↦ subst IsToldAlone (sym e) tt ]
  ]

  pub replay_no_words : (before now : Outside) (x : Status) → Replays a k told before now x → x ≢ status.Words
  replay_no_words before now x (inl on) e =
      let none : SaysReplay a k on.text before.streams now.streams status.Words = subst (λ z. SaysReplay a k on.text before.streams now.streams z) e on.says in absurd none
  replay_no_words before now x (inr none) e = elim none.why [
    | inl w ↦ absurd (let r : status.ReadFault ≡ status.Words = sym w.0 ∙ e in let b : ⊥ = cc in b)
    | inr w ↦ elim w [
      | inl l ↦ absurd (let r : status.Limit ≡ status.Words = sym l.0 ∙ e in let b : ⊥ = cc in b)
      | inr m ↦ absurd (let r : status.Memory ≡ status.Words = sym m ∙ e in let b : ⊥ = cc in b)
    ]
  ]

  -- ---- causes

  on_cause : (before now : Outside) (x : Status) (text : List ℕ) → IfSome told (λ t. text ≡ t) → SaysReplay a k text before.streams now.streams x → HasReplayCause told before now x
  on_cause before now status.Clean text e says = says.1.ended
  on_cause before now status.Alarm text e says = says.1.ended
  on_cause before now status.Overflow text e says = says.1.ended
  on_cause before now status.NotARun text e says = says.1.ended
  on_cause before now status.ReadFault text e says = inl says.1
  on_cause before now status.WriteFault text e says = says.1
  on_cause before now status.Memory text e says = tt
  on_cause before now status.Limit text e says = elim says.1 [ inl lt ↦ inl (is_long told text e lt) | inr long ↦ inr long ]
  on_cause before now _ text e says = absurd says

  pub replay_cause : (before now : Outside) (x : Status) → Replays a k told before now x → HasReplayCause told before now x
  replay_cause before now x (inl on) = on_cause before now x on.text on.same on.says
  replay_cause before now x (inr none) = elim none.why [
    | inl w ↦ subst (λ z. HasReplayCause told before now z) (sym w.0) (inr w.1)
    | inr w ↦ elim w [
      | inl l ↦ subst (λ z. HasReplayCause told before now z) (sym l.0) (inl l.1)
      | inr e ↦ subst (λ z. HasReplayCause told before now z) (sym e) tt
    ]
  ]

  -- ---- want of memory in telling the cause

  says_memory : (log : List ℕ) (before now : Streams) (x : Status) → SaysReplay a k log before now x → SaysReplay a k log before now status.Memory
  says_memory log before now status.Clean says = inr (says.0, [], says.1)
  says_memory log before now status.Alarm says = inr (says.0, [], says.1)
  says_memory log before now status.Overflow says = inr (says.0, [], says.1)
  says_memory log before now status.NotARun says = inr (says.0, [], says.1)
  says_memory log before now status.ReadFault says = inl says.0
  says_memory log before now status.Limit says = inl says.0
  says_memory log before now status.WriteFault says = inr says.0
  says_memory log before now status.Memory says = says
  says_memory log before now _ says = absurd says

  pub replay_memory : (before now : Outside) (x : Status) → Replays a k told before now x → Replays a k told before now status.Memory
  replay_memory before now x (inl on) = inl (record { text = on.text; same = on.same; says = says_memory on.text before.streams now.streams x on.says })
  replay_memory before now x (inr none) = inr (record { untouched = none.untouched; why = inr (inr refl) })

-- ---- completeness

says_complete : (a : Automaton) (k : ℕ) (before now : Outside) (x : Status) (text : List ℕ) → length text ≤ text_limit → IsReplayUndisturbed before now →
    SaysReplay a k text before.streams now.streams x → IsReplayed x
says_complete a k before now status.Clean text within u says = inl refl
says_complete a k before now status.Alarm text within u says = inr (inl refl)
says_complete a k before now status.Overflow text within u says = inr (inr (inl refl))
says_complete a k before now status.NotARun text within u says = inr (inr (inr (inl refl)))
says_complete a k before now status.Memory text within u says = inr (inr (inr (inr refl)))
says_complete a k before now status.ReadFault text within u says = absurd (u.log says.1)
says_complete a k before now status.WriteFault text within u says = absurd (u.out says.1)
says_complete a k before now status.Limit text within u says = elim says.1 [
  | inl lt ↦ absurd (omega (arith, lt, within))
  | inr long ↦ let most = u.within long.0 long.1 in let more = long.2 in absurd (omega (arith, most, more))
]
says_complete a k before now _ text within u says = absurd says

pub replay_complete : (a : Automaton) (k : ℕ) (told : Option (List ℕ)) (before now : Outside) (x : Status) → Replays a k told before now x → CompletesReplay told before now x
replay_complete a k None before now x r = tt
replay_complete a k (Some text) before now x (inl on) = λ within u.
    says_complete a k before now x on.text (subst (λ z. length z ≤ text_limit) (sym on.same) within) u on.says
replay_complete a k (Some text) before now x (inr none) = λ within u. elim none.why [
  | inl w ↦ absurd (u.shelf w.1)
  | inr w ↦ elim w [
    | inl l ↦ let more = l.1 in absurd (omega (arith, more, within))
    | inr e ↦ inr (inr (inr (inr e)))
  ]
]

-- ---- a shelf that was looked at before

pub replay_from : (a : Automaton) (k : ℕ) (told known : Option (List ℕ)) (s n : Streams) (t v u : List ℕ → Option (List ℕ)) (f g h : ℕ) (x : Status) → known ≡ told → f ≤ g →
    Replays a k known (outside s v g) (outside n u h) x → Replays a k told (outside s t f) (outside n u h) x
replay_from a k told known s n t v u f g h x e le (inl on) =
    inl (record { text = on.text; same = subst (λ o. IfSome o (λ z. on.text ≡ z)) e on.same; says = on.says })
replay_from a k told known s n t v u f g h x e le (inr none) = inr (record {
  untouched = none.untouched;
  why = elim none.why [
    | inl w ↦ inl (w.0, rose_before f g h le w.1)
    | inr w ↦ elim w [ inl l ↦ inr (inl (l.0, subst IsLongLog e l.1)) | inr m ↦ inr (inr m) ]
  ];
})
