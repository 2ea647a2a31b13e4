-- What a lent buffer holds after a call that writes at its front.
use Rattle.std.specs.Prelude.{ℕ, ◌≡◌, List, ◌++◌, length, drop}
use Rattle.basics.specs.Refusals.{Reply, answered, refused, and_then}

-- new elements at the front of a buffer; those past them stay
abbrev pub over : List ℕ → List ℕ → List ℕ
over new old = new ++ drop (length new) old

-- a call that writes by a plan, the new elements or a refusal: it answers how many they are
abbrev pub written_reply : Reply (List ℕ) → Reply ℕ
written_reply plan = and_then plan (λ new. answered (length new))

-- and a refusal writes nothing
abbrev pub written_over : Reply (List ℕ) → List ℕ → List ℕ
written_over (answered new) old = over new old
written_over (refused number place) old = old

-- both of such a call, whose answer stands for a reply
pub record Writes {A : Type 0} (reply : A → Reply ℕ) (plan : Reply (List ℕ)) (old : List ℕ) (r : A) (new : List ℕ)
    : Type 0 where
  pub answer : reply r ≡ written_reply plan
  pub buffer : new ≡ written_over plan old
