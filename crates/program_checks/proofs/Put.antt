-- What lines say that are put.
use Rattle.std.proofs.Common.{List, [], ap, append_assoc, arith, codes, length, length-append, refl, subst, sym, take, ℕ, ◌++◌, ◌+◌, ◌-◌, ◌∙◌, ◌∷◌}
use Rattle.std.proofs.{Common.{◌≡◌, ◌≤◌}, Math.Seq.take-append_seam, lemmas.List.{Elements.{All-append, All-cons, All-nil}, Sums.fold-append}}
use Rattle.std.{proofs.lemmas.List.append-nil, specs.List.{All, fold}}
use Rattle.schedule_lines.specs.{Printed.Prints, declared.output.Output.Output}
use Rattle.program_checks.specs.Said.{PutsSaid, Say, says_line, text_of, unended}

-- a text before a newline
pub unended_is : (xs : List ℕ) → unended (xs ++ codes "\n") ≡ xs
unended_is xs =
    let n : length (xs ++ codes "\n") - 1 ≡ length xs = omega (arith, length-append xs (codes "\n")) in
    ap (λ (k : ℕ). take k (xs ++ codes "\n")) n ∙ take-append_seam xs (codes "\n")

-- a line
line_says : (before part : List ℕ) → says_line before (codes "#> " ++ part) ≡ before ++ (part ++ codes "\n")
unfolding says_line
line_says before part = refl

-- more of it
more_says : (said part : List ℕ) → says_line said (codes "#>+" ++ part) ≡ unended said ++ (part ++ codes "\n")
unfolding says_line
more_says said part = refl

-- lines behind lines
short_both : (xs ys : List (List ℕ)) → All (λ line. length line ≤ 256) xs → All (λ line. length line ≤ 256) ys → All (λ line. length line ≤ 256) (xs ++ ys)
short_both xs ys one other = All-append (λ (line : List ℕ). length line ≤ 256) xs ys one other

one_short : (line : List ℕ) → length line ≤ 256 → All (λ line. length line ≤ 256) (line ∷ [])
one_short line fits = All-cons (λ (line : List ℕ). length line ≤ 256) line [] fits (All-nil (λ (line : List ℕ). length line ≤ 256))

-- as a list
one_says : (part : List ℕ) → length part ≤ 253 → Say ((codes "#> " ++ part) ∷ []) (part ++ codes "\n")
one_says part fits = record { said = λ before. line_says before part; short = one_short (codes "#> " ++ part) (omega arith) }

text_both : (xs ys : List (List ℕ)) → text_of (xs ++ ys) ≡ text_of xs ++ text_of ys
text_both [] ys = refl
text_both (x ∷ xs) ys = ap (λ (rest : List ℕ). (x ++ codes "\n") ++ rest) (text_both xs ys) ∙ sym (append_assoc (x ++ codes "\n") (text_of xs) (text_of ys))

-- what is said goes on
says_on : (lines : List (List ℕ)) (done part : List ℕ) → Say lines (done ++ codes "\n") → length part ≤ 253 →
    Say (lines ++ ((codes "#>+" ++ part) ∷ [])) ((done ++ part) ++ codes "\n")
says_on lines done part so fits = record {
  said = λ before.
      fold-append says_line before lines ((codes "#>+" ++ part) ∷ [])
      ∙ ap (λ (said : List ℕ). says_line said (codes "#>+" ++ part)) (so.said before)
      ∙ more_says (before ++ (done ++ codes "\n")) part
      ∙ ap (λ (said : List ℕ). unended said ++ (part ++ codes "\n")) (sym (append_assoc before done (codes "\n")))
      ∙ ap (λ (said : List ℕ). said ++ (part ++ codes "\n")) (unended_is (before ++ done))
      ∙ append_assoc before done (part ++ codes "\n")
      ∙ ap (λ (said : List ℕ). before ++ said) (sym (append_assoc done part (codes "\n")));
  short = short_both lines ((codes "#>+" ++ part) ∷ []) so.short (one_short (codes "#>+" ++ part) (omega arith));
}

-- the first line is put
pub begun : (old new : Output) (part : List ℕ) → length part ≤ 253 → Prints old new ((codes "#> " ++ part) ++ codes "\n") →
    PutsSaid old new (part ++ codes "\n")
begun old new part fits prints = record {
  whole = prints.whole;
  puts = λ whole. (
    (codes "#> " ++ part) ∷ [],
    one_says part fits,
    prints.printed whole ∙ ap (λ (bytes : List ℕ). old.bytes.items ++ bytes) (sym (append-nil ((codes "#> " ++ part) ++ codes "\n"))),
  );
}

-- one more is put
pub goes_on : (old mid new : Output) (done part : List ℕ) → PutsSaid old mid (done ++ codes "\n") → length part ≤ 253 →
    Prints mid new ((codes "#>+" ++ part) ++ codes "\n") → PutsSaid old new ((done ++ part) ++ codes "\n")
goes_on old mid new done part so fits prints = record {
  whole = λ whole. so.whole (prints.whole whole);
  puts = λ whole.
      let put = so.puts (prints.whole whole) in
      let line : List (List ℕ) = (codes "#>+" ++ part) ∷ [] in (
        put.0 ++ line,
        says_on put.0 done part put.1 fits,
        prints.printed whole
            ∙ ap (λ (bytes : List ℕ). bytes ++ ((codes "#>+" ++ part) ++ codes "\n")) put.2
            ∙ append_assoc old.bytes.items (text_of put.0) ((codes "#>+" ++ part) ++ codes "\n")
            ∙ ap (λ (bytes : List ℕ). old.bytes.items ++ bytes)
            (ap (λ (bytes : List ℕ). text_of put.0 ++ bytes) (sym (append-nil ((codes "#>+" ++ part) ++ codes "\n"))) ∙ sym (text_both put.0 line)),
      );
}

-- all is put
pub all_put : (old new : Output) (text done rest : List ℕ) → text ≡ done ++ rest → length rest ≡ 0 → PutsSaid old new (done ++ codes "\n") →
    PutsSaid old new (text ++ codes "\n")
all_put old new text done [] same none so = subst (λ (said : List ℕ). PutsSaid old new (said ++ codes "\n")) (sym (append-nil done) ∙ sym same) so
all_put old new text done (byte ∷ rest) same none so = absurd (omega arith)
