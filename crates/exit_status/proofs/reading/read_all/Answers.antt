use Rattle.std.proofs.{Common.{◌≡◌, ◌∙◌, sym, ap, subst, ℕ, ◌<◌, ◌≤◌, List, [], ◌++◌, length, take, min, Option, Some, None, IfSome, option_map, arith}, lemmas.List.{length-take, take_all}}
use Rattle.exit_status.proofs.reading.read_all.Goals as goal

-- bytes that are fewer than were to be read at most are all
all_read : (known : Option (List ℕ)) (bytes : List ℕ) (limit : ℕ) → IfSome (option_map (take limit) known) (λ xs. bytes ≡ xs) →
    length bytes < limit → IfSome known (λ all. bytes ≡ all)
all_read None bytes limit read few = tt
all_read (Some all) bytes limit read few =
    let n : length bytes ≡ min limit (length all) = ap length read ∙ length-take limit all in read ∙ take_all limit all (omega arith)

-- the same, by what the reader has that is limited
whole : (known found : Option (List ℕ)) (bytes before : List ℕ) (limit : ℕ) → found ≡ known → before ≡ [] →
    IfSome (option_map (take limit) found) (λ xs. bytes ≡ before ++ xs) → length bytes < limit → IfSome known (λ all. bytes ≡ all)
whole known found bytes before limit same none read few =
    let behind : IfSome (option_map (take limit) found) (λ xs. bytes ≡ xs) =
    subst (λ (b : List ℕ). IfSome (option_map (take limit) found) (λ xs. bytes ≡ b ++ xs)) none read in
    all_read known bytes limit (subst (λ (k : Option (List ℕ)). IfSome (option_map (take limit) k) (λ xs. bytes ≡ xs)) same behind) few

pub returns : goal.returns
returns g c =
    whole (g.I.Read.remaining c.args.reader.now) (g.I.Read.remaining c.take-limited.result.inner.now) c.read_to_end.new.buf.items c.new-bytes.result.items
    c.take-limited.result.limit
    (ap (λ r. g.I.Read.remaining r.now) c.take-limited.ensures.inner)
    c.new-bytes.ensures.items c.in_ok-read_to_end.ensures.bytes
    (omega (arith, c.if-len-gt-BYTES.false, c.len.ensures, c.take-limited.ensures.limit))
