-- Options of which some value is out of its range, or none.
use Rattle.std.proofs.Common.{◌≡◌, ℕ, List, refl, codes}
use Rattle.std.specs.Prelude.{Option, Some, None}
use Rattle.clap.specs.Words.{Row, first_of}
use Rattle.log_specs.specs.declared.RunsMode.{RunsMode}
use Rattle.command_words.specs.declared.options.Options.{Options}
use Rattle.command_words.specs.CommandLine.{number_or, runs_of, options_by, options_of}

no_second : (a b c d : Option ℕ) (e : Option RunsMode) → b ≡ None → None ≡ options_by a b c d e
no_second None b c d e h = refl
no_second (Some x) b c d e h = rw h refl

no_third : (a b c d : Option ℕ) (e : Option RunsMode) → c ≡ None → None ≡ options_by a b c d e
no_third None b c d e h = refl
no_third (Some x) None c d e h = refl
no_third (Some x) (Some y) c d e h = rw h refl

no_fourth : (a b c d : Option ℕ) (e : Option RunsMode) → d ≡ None → None ≡ options_by a b c d e
no_fourth None b c d e h = refl
no_fourth (Some x) None c d e h = refl
no_fourth (Some x) (Some y) None d e h = refl
no_fourth (Some x) (Some y) (Some z) d e h = rw h refl

no_fifth : (a b c d : Option ℕ) (e : Option RunsMode) → e ≡ None → None ≡ options_by a b c d e
no_fifth None b c d e h = refl
no_fifth (Some x) None c d e h = refl
no_fifth (Some x) (Some y) None d e h = refl
no_fifth (Some x) (Some y) (Some z) None e h = refl
no_fifth (Some x) (Some y) (Some z) (Some u) e h = rw h refl

all_five : (a b c d : Option ℕ) (e : Option RunsMode) (x y z u : ℕ) (v : RunsMode) →
    a ≡ Some x → b ≡ Some y → c ≡ Some z → d ≡ Some u → e ≡ Some v →
    ◌≡◌ {A = Option Options} (Some (record { jumps = x; workers = y; window = z; memo = u; runs = v })) (options_by a b c d e)
all_five a b c d e x y z u v p q r s t = rw (p, q, r, s, t) refl

module _ (rows : List Row) where
  pub no_jumps : number_or 0 6 2 (first_of (codes "jumps") rows) ≡ None → None ≡ options_of rows
  no_jumps h = rw h refl

  pub no_workers : number_or 1 32 4 (first_of (codes "workers") rows) ≡ None → None ≡ options_of rows
  no_workers h = no_second _ _ _ _ _ h

  pub no_window : number_or 1 1024 64 (first_of (codes "window") rows) ≡ None → None ≡ options_of rows
  no_window h = no_third _ _ _ _ _ h

  pub no_memo : number_or 1 100000 10000 (first_of (codes "memo") rows) ≡ None → None ≡ options_of rows
  no_memo h = no_fourth _ _ _ _ _ h

  pub no_runs : runs_of (first_of (codes "runs") rows) ≡ None → None ≡ options_of rows
  no_runs h = no_fifth _ _ _ _ _ h

  pub all_options : (x y z u : ℕ) (v : RunsMode) → number_or 0 6 2 (first_of (codes "jumps") rows) ≡ Some x →
      number_or 1 32 4 (first_of (codes "workers") rows) ≡ Some y → number_or 1 1024 64 (first_of (codes "window") rows) ≡ Some z →
      number_or 1 100000 10000 (first_of (codes "memo") rows) ≡ Some u → runs_of (first_of (codes "runs") rows) ≡ Some v →
      ◌≡◌ {A = Option Options} (Some (record { jumps = x; workers = y; window = z; memo = u; runs = v })) (options_of rows)
  all_options x y z u v p q r s t = all_five _ _ _ _ _ x y z u v p q r s t
