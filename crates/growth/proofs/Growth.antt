-- Demand 3: growing a table never spoils an answer, from the bytes of two texts to the answers on the two tables' words.
use Rattle.std.proofs.Common.{◌≡◌, ℕ, true, false, List, [], ◌++◌, length, get_or, drop, sym, ◌∙◌}
use Rattle.basics.specs.Refusals.{answered}
use Rattle.scalars.specs.Characters.{is_scalar, local_of}
use Rattle.lines.specs.Lines.{lines_of}
use Rattle.lines.specs.Texts.{accepted}
use Rattle.definitions.specs.declared.Definition.{Definition}
use Rattle.definitions.specs.Definitions.{table}
use Rattle.definitions.specs.Effects.{is_defined}
use Rattle.definitions.proofs.Admission.{Admits}
use Rattle.pairs.specs.Words.{table_words, image_of, charset_of}
use Rattle.table.specs.Check.{lent_table}
use Rattle.table.proofs.Readback.{image_charset, image_lent}
use Rattle.rules.specs.Rules.{lookup}
use Rattle.lookup.specs.Calls.{lookup_reply}
use Rattle.typing.specs.Typing.{nothing, entries_of, typing_reply, typed_by}
use Rattle.typing.proofs.TypedCells.{stays_typed}
use Rattle.compiler.specs.Compile.{compiled, effects, compile_words}
use Rattle.compiler.proofs.Texts.{AnsweredText, whole_took, grown_took, text_answered, accepted_words}
use Rattle.growth.specs.Growth.{accepting, NotAdded, Apart, Lookups, Typings, Growing, NeverSpoils}
use Rattle.growth.proofs.Rules.{Each, lookup_grown, lookup_same}

-- what is known of a lent slice whose table is ds
module _ (ws : List ℕ) (ds : List Definition) (lent : lent_table ws ≡ answered ds) where
  lookup_lent : (charset : ℕ) → charset_of ws ≡ charset → (c : ℕ) → is_scalar c ≡ true → lookup_reply ws c ≡ answered (lookup charset (table ds) c)
  unfolding lookup_reply
  lookup_lent charset set c scalar = rw (lent, set, scalar)

  typing_lent : typing_reply ws ≡ answered tt
  typing_lent = rw lent

  typed_lent : (cell : ℕ) → typed_by ws cell ≡ get_or (entries_of ds) cell nothing
  typed_lent cell = rw lent

-- a slice as compiled is the table of its text's definitions, for the set that it was compiled in
module _ (charset : ℕ) (text slice : List ℕ) {count : ℕ} (a : AnsweredText charset text (length slice) count) where
  image : compile_words charset text slice ≡ image_of charset a.definitions ++ drop table_words slice
  image = accepted_words charset text slice a.known a.enough a.compiles

  compiled_lent : lent_table (compile_words charset text slice) ≡ answered a.definitions
  compiled_lent = let took = whole_took charset text a.compiles in
      rw image (image_lent a.definitions took.admits took.fit charset (drop table_words slice) a.known)

  compiled_set : charset_of (compile_words charset text slice) ≡ charset
  compiled_set = let took = whole_took charset text a.compiles in rw image (image_charset a.definitions took.admits took.fit charset (drop table_words slice))

-- where no added definition is for what an answer goes by, in terms of the definitions of the first text
apart_each : (charset : ℕ) (text more : List ℕ) {ds : List Definition} → compiled charset text ≡ accepted ds → (c : ℕ) → Apart charset text more c
    → Each (table ds) (λ x. is_defined (effects charset ds (lines_of more)) x ≡ false) c
apart_each charset text more e c a =
    let each : Each (table (accepting (compiled charset text))) (λ x. NotAdded charset text more x) c =
    record { own = a.own; base = a.base; stand_in = a.stand_in; end = a.end; replacement = a.replacement; question = a.question } in
    rw e at each

-- two slices that are the tables of a text and of the same with bytes after it, for one set
module _ (charset : ℕ) (text more first grown : List ℕ) (ds : List Definition) (e : compiled charset text ≡ accepted ds)
    (h : Admits [] (ds ++ effects charset ds (lines_of more)))
    (lent : lent_table first ≡ answered ds) (lent' : lent_table grown ≡ answered (ds ++ effects charset ds (lines_of more))) where
  lookups : charset_of first ≡ charset → charset_of grown ≡ charset → (c : ℕ) → is_scalar c ≡ true → Lookups charset text more first grown c
  lookups set set' c scalar =
      let rs = effects charset ds (lines_of more) in
      let kept = lookup_grown ds rs h charset c in
      record {
        before = lookup charset (table ds) c;
        after = lookup charset (table (ds ++ rs)) c;
        answers_before = lookup_lent first ds lent charset set c scalar;
        answers_after = lookup_lent grown (ds ++ rs) lent' charset set' c scalar;
        rule_falls_or_stays = kept.rule;
        same_rule_same_cell = kept.cell;
        same_where_apart = λ a. lookup_same ds rs h charset c (apart_each charset text more e (local_of charset c) a);
      }

  typings : Typings first grown
  typings =
      let rs = effects charset ds (lines_of more) in
      record {
        answers_before = typing_lent first ds lent;
        answers_after = typing_lent grown (ds ++ rs) lent';
        types_the_same = λ cell c l p. typed_lent grown (ds ++ rs) lent' cell ∙ stays_typed ds rs cell (sym (typed_lent first ds lent cell) ∙ p);
      }

-- the whole claim
pub never_spoils : (charset : ℕ) (text more slice slice' : List ℕ) → Growing charset text more slice slice' → NeverSpoils charset text more slice slice'
never_spoils charset text more slice slice' g =
    let a = text_answered charset text (length slice) g.accepts in
    let b = text_answered charset (text ++ more) (length slice') g.accepts' in
    let took = grown_took charset text more g.ended a.compiles b.compiles in
    let h = rw took.after at (whole_took charset (text ++ more) b.compiles).admits in
    let lent = compiled_lent charset text slice a in
    let lent' = rw took.after at (compiled_lent charset (text ++ more) slice' b) in
    let first = compile_words charset text slice in
    let grown = compile_words charset (text ++ more) slice' in
    record {
      shown = lookups charset text more first grown a.definitions a.compiles h lent lent' (compiled_set charset text slice a)
          (compiled_set charset (text ++ more) slice' b);
      typed = typings charset text more first grown a.definitions a.compiles h lent lent';
    }
