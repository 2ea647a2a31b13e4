-- Document 02, #102: an accepted result equals one page call per window in list order, overlapping or empty ones too.
use Rattle.std.specs.Prelude.{ℕ, ◌≡◌, List, [], ◌∷◌, ◌++◌, length, take, drop}
use Rattle.basics.specs.Refusals.{Reply, answered, and_then}
use Rattle.rules.specs.declared.Answer.{Answer}
use Rattle.lookup.specs.Calls.{page_plan, page_reply, page_cells, page_rules}
use Rattle.windows.specs.declared.Window.{Window}
use Rattle.windows.specs.Windows.{part_of, PagesWindows}

-- what a call answers, and what both outputs hold after it
pub record Call : Type 0 where
  pub answer : Reply (Unit {0})
  pub cells : List ℕ
  pub rules : List ℕ

abbrev pub called : Reply (Unit {0}) → List ℕ → List ℕ → Call
called answer cells rules = record { answer = answer; cells = cells; rules = rules }

-- the page call, from what both outputs held
abbrev pub page_call : List ℕ → List ℕ → List ℕ → List ℕ → Call
page_call words page cells rules =
    let plan : Reply (ℕ → Answer) = page_plan words page (length cells) (length rules) in
    called (page_reply plan) (page_cells plan page cells) (page_rules plan page rules)

-- one page call, then the others on what follows in both outputs; the first refusal stands
abbrev pub followed_by : Call → Call → Call
followed_by first others =
    called (and_then first.answer (λ u. others.answer)) (first.cells ++ others.cells) (first.rules ++ others.rules)

-- one page call per window in list order, each on the window's part of the page and on the next part of both outputs
unfoldable pub one_per_window : List Window → List ℕ → List ℕ → List ℕ → List ℕ → Call
one_per_window [] words page cells rules = called (answered tt) cells rules
one_per_window (w ∷ ws) words page cells rules =
    let others : Call = one_per_window ws words page (drop w.width cells) (drop w.width rules) in
    followed_by (page_call words (part_of page w) (take w.width cells) (take w.width rules)) others

-- that is what a call for many windows does that is accepted: the same bytes in both outputs, every one of those calls
-- accepted
abbrev pub EqualsOnePerWindow : Type 0
EqualsOnePerWindow =
    (ws : List Window) (words page cells rules new-cells new-rules : List ℕ)
    → PagesWindows (λ reply. reply) ws words page cells rules (answered tt) new-cells new-rules
    → called (answered tt) new-cells new-rules ≡ one_per_window ws words page cells rules
