-- The command of a letter and the fields after it, read field by field. Assumes nothing.
use Prim.Native.Nat.{ℕ}
use mathlib.Core.Path.{◌≡◌, refl, sym}
use mathlib.Core.Bool.{Bool, true, false, not}
use Rattle.std.proofs.lemmas.Bool.{false≢true}
use mathlib.Core.Option.{Option, none, some}
use mathlib.Core.List.{List, [], ◌∷◌}
use Rattle.command.specs.Command.{Command, join, leave, deliver, find}
use Rattle.command.specs.Command.{byte_field, vector_field, number_field, given, fields, command_of}
use Rattle.command.specs.inner.Reading.{fields_left, with_rest, read, only}
use Rattle.command.specs.Answer.{command_as, as_command}
use Rattle.command.specs.declared.Command.{Command as Parsed}
use Rattle.std.specs.Prelude.{Option as Answer, Some, None, is_some}
use Rattle.std.specs.Bool.{then_some}
use Rattle.std.specs.Borrow.{Bor}
use Rattle.command.proofs.Spaces.{fields_some}

-- a field that is read, and what comes of its number and the fields after it
abbrev pub next : Option (ℕ × List (List ℕ)) → (ℕ → List (List ℕ) → Option Command) → Option Command
next none g = none
next (some p) g = g p.0 p.1

next-given : (o : Option ℕ) (fs : List (List ℕ)) (g : ℕ → List (List ℕ) → Option Command) → next (with_rest o fs) g ≡ given o (λ n. g n fs)
next-given none fs g = refl
next-given (some n) fs g = refl

given-none : (o : Option ℕ) → given o (λ n. none) ≡ none
given-none none = refl
given-none (some n) = refl

-- a command, if no field is left
pub only_left : (o : Answer (Bor (List ℕ))) (d : Parsed) (b : Bool) → is_some o ≡ not b
    → as_command (then_some b d) ≡ only (fields_left o) (command_as d)
only_left None d true e = refl
only_left None d false e = absurd (false≢true e)
only_left (Some l) d true e = absurd (false≢true (sym e))
only_left (Some l) d false e = by (fields l.now) (fields_some l.now)
  where
    by : (fs : List (List ℕ)) → (fs ≡ [] → ⊥) → none ≡ only fs (command_as d)
    by [] h = absurd (h refl)
    by (f ∷ fs) h = refl

ruleset by-fields = (next-given, given-none)

pub leave_reads : (fs : List (List ℕ)) → command_of ((76 ∷ []) ∷ fs) ≡ next (read byte_field fs) (λ s fs₁. only fs₁ (leave s))
unfolding command_of
leave_reads [] = refl
leave_reads (a ∷ []) = simp by-fields
leave_reads (a ∷ b ∷ []) = simp by-fields
leave_reads (a ∷ b ∷ d ∷ []) = simp by-fields
leave_reads (a ∷ b ∷ d ∷ e ∷ []) = simp by-fields
leave_reads (a ∷ b ∷ d ∷ e ∷ f ∷ []) = simp by-fields
leave_reads (a ∷ b ∷ d ∷ e ∷ f ∷ g ∷ l) = simp by-fields

pub find_reads : (fs : List (List ℕ))
    → command_of ((70 ∷ []) ∷ fs) ≡ next (read byte_field fs) (λ s fs₁. next (read number_field fs₁) (λ n fs₂. only fs₂ (find s n)))
unfolding command_of
find_reads [] = refl
find_reads (a ∷ []) = simp by-fields
find_reads (a ∷ b ∷ []) = simp by-fields
find_reads (a ∷ b ∷ d ∷ []) = simp by-fields
find_reads (a ∷ b ∷ d ∷ e ∷ []) = simp by-fields
find_reads (a ∷ b ∷ d ∷ e ∷ f ∷ []) = simp by-fields
find_reads (a ∷ b ∷ d ∷ e ∷ f ∷ g ∷ l) = simp by-fields

pub join_reads : (fs : List (List ℕ))
    → command_of ((74 ∷ []) ∷ fs)
    ≡ next (read byte_field fs)
    (λ s fs₁. next (read number_field fs₁) (λ n fs₂.
    next (read vector_field fs₂) (λ v fs₃. next (read byte_field fs₃) (λ w fs₄. only fs₄ (join s n v w)))))
unfolding command_of
join_reads [] = refl
join_reads (a ∷ []) = simp by-fields
join_reads (a ∷ b ∷ []) = simp by-fields
join_reads (a ∷ b ∷ d ∷ []) = simp by-fields
join_reads (a ∷ b ∷ d ∷ e ∷ []) = simp by-fields
join_reads (a ∷ b ∷ d ∷ e ∷ f ∷ []) = simp by-fields
join_reads (a ∷ b ∷ d ∷ e ∷ f ∷ g ∷ l) = simp by-fields

pub deliver_reads : (fs : List (List ℕ))
    → command_of ((68 ∷ []) ∷ fs)
    ≡ next (read byte_field fs)
    (λ k fs₁. next (read byte_field fs₁)
    (λ t fs₂. next (read byte_field fs₂)
    (λ x fs₃. next (read byte_field fs₃) (λ l fs₄. next (read byte_field fs₄) (λ d fs₅. only fs₅ (deliver k t x l d))))))
unfolding command_of
deliver_reads [] = refl
deliver_reads (a ∷ []) = simp by-fields
deliver_reads (a ∷ b ∷ []) = simp by-fields
deliver_reads (a ∷ b ∷ d ∷ []) = simp by-fields
deliver_reads (a ∷ b ∷ d ∷ e ∷ []) = simp by-fields
deliver_reads (a ∷ b ∷ d ∷ e ∷ f ∷ []) = simp by-fields
deliver_reads (a ∷ b ∷ d ∷ e ∷ f ∷ g ∷ l) = simp by-fields
