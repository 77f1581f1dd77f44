use Rattle.std.proofs.Common.{◌≡◌, ℕ, ◌+◌, ◌<◌, List, [], ◌∷◌, ◌++◌, length, get_or, take, sym, ap, subst, ◌∙◌, append_assoc}
use Rattle.std.specs.List.{flat_map}
use Rattle.std.proofs.lemmas.List.{take_more, flat_map_more}
use Rattle.std.proofs.lemmas.List.Elements.{All-more}
use Rattle.ksql_types.specs.declared.value.Value.{Value}
use Rattle.record_codec.specs.Spelling.{four, value, IsTypedValue}
use Rattle.record_codec.proofs.writing.put_values.Goals as goal

one_more : (out before now len : List ℕ) (vs : List Value) (i : ℕ) (v : Value) → i < length vs → v ≡ get_or vs i v
    → before ≡ out ++ (len ++ flat_map value (take i vs)) → now ≡ before ++ value v → now ≡ out ++ (len ++ flat_map value (take (i + 1) vs))
one_more out before now len vs i v lt is so_far step =
    let front : take (i + 1) vs ≡ take i vs ++ v ∷ [] = take_more vs i v lt ∙ ap (λ (w : Value). take i vs ++ w ∷ []) (sym is) in
    step ∙ ap (λ (x : List ℕ). x ++ value v) (so_far ∙ sym (append_assoc out len (flat_map value (take i vs))))
    ∙ flat_map_more value (out ++ len) (take i vs) v ∙ append_assoc out len (flat_map value (take i vs ++ v ∷ []))
    ∙ ap (λ (t : List Value). out ++ (len ++ flat_map value t)) (sym front)

pub loop-value-preserved : goal.loop-value-preserved
loop-value-preserved c =
    let vs = c.args.values.now in
    let i = c.loop-value.value-index in
    let v = c.value-item.result in
    record {
      bytes = one_more c.args.out.now.items c.loop-value.out.items c.put_value.new.out.items (four (length vs)) vs i v c.loop-value-test.true c.value-item.is
          c.loop-value.invariant.bytes c.in_ok-put_value.ensures.bytes;
      typed = All-more IsTypedValue vs i v c.loop-value-test.true c.loop-value.invariant.typed (subst IsTypedValue c.value-item.is c.in_ok-put_value.ensures.typed);
    }
