-- The line of a cause, told whole or in part.
use Rattle.std.proofs.Common.{◌≡◌, ◌⊎◌, inl, inr, ℕ, List, length, Option, refl, sym, ◌∙◌, subst, arith}
use Rattle.std.proofs.Math.Seq.{take-length}
use Rattle.std.specs.Io.KnownBytes.{Appends}
use Rattle.report_loop.specs.declared.status.Status.{Status}
use Rattle.report_loop.specs.declared.status.Status.TheVariants as status
use Rattle.report_loop.specs.Codes.{line_of}
use Rattle.hamon_engine.specs.Telling.{TellsLine, IsModelLine, IsTold, IsToldAlone, IsLineTold}

pub whole_line : (old new : Option (List ℕ)) (f g : ℕ) (line : List ℕ) → Appends old new line → TellsLine old new f g line
whole_line old new f g line wrote = (length line, subst (λ z. Appends old new z) (sym (take-length line)) wrote, λ l. absurd (omega (arith, l)))

-- what was told at a status, unless memory was wanted
told_status : (text old new : Option (List ℕ)) (f g : ℕ) (s : Status) → IsToldAlone s → IsLineTold old new f g (line_of s) s → IsTold text old new f g s
told_status text old new f g status.Memory alone t = tt
told_status text old new f g status.Model alone t = absurd alone
told_status text old new f g status.SavedText alone t = absurd alone
told_status text old new f g _ alone t = t (λ e. cc)

pub told_at : (text old new : Option (List ℕ)) (f g : ℕ) (s result : Status) (line : List ℕ) → line ≡ line_of s → (result ≡ s) ⊎ (result ≡ status.Memory) → IsToldAlone s →
    IsLineTold old new f g line result → IsTold text old new f g result
told_at text old new f g s result line is (inl e) other t =
    subst (λ z. IsTold text old new f g z) (sym e)
    (told_status text old new f g s other (subst (λ z. IsLineTold old new f g z s) is (subst (λ z. IsLineTold old new f g line z) e t)))
told_at text old new f g s result line is (inr e) other t = subst (λ z. IsTold text old new f g z) (sym e) tt

pub told_model : (text old new : Option (List ℕ)) (f g : ℕ) (result : Status) (line : List ℕ) → (result ≡ status.Model) ⊎ (result ≡ status.Memory) → IsModelLine text line →
    IsLineTold old new f g line result → IsTold text old new f g result
told_model text old new f g result line (inl e) is t = subst (λ z. IsTold text old new f g z) (sym e) (line, is, t (λ m. let no : status.Model ≡ status.Memory = sym e ∙ m in cc))
told_model text old new f g result line (inr e) is t = subst (λ z. IsTold text old new f g z) (sym e) tt
