use Rattle.std.proofs.Common.{◌≡◌, ◌∙◌, ◌++◌, sym, ap, subst, length, inl, inr, rules, ◌/◌, ◌+◌, ◌≤◌, drop}
use Rattle.std.proofs.lemmas.Result.{on_ok_weaker}
use Rattle.collection_model.specs.FormatNumbers.{most_terms}
use Rattle.index_file.specs.Builder.{IsKept, repeated, with_empty_plain_lists}
use Rattle.index_file.proofs.AddedBoth.{either-way}
use Rattle.index_file.proofs.EmptyLists.{PlainEmpty, empty_entry, plain-empty}
use Rattle.index_file.proofs.plain_builder.PlainBuilder.append_empty.Goals as goal
use Rattle.index_file.proofs.plain_builder.PlainBuilder.append_empty.Goals.{After-push_entries}

-- what is kept where there was memory
kept : (c : After-push_entries) → PlainEmpty c.self.inside.format c.self.inside.documents c.self.inside.words.items c.self.inside.directory.items
    (c.self.inside.directory.items ++ repeated c.args.count (empty_entry (length c.self.inside.words.items))) c.args.count
kept c =
    let s = c.self.inside in
    plain-empty s.format s.documents s.words.items s.directory.items c.args.count c.self.invariant (subst (λ b. length b.directory / 4 + c.args.count ≤ most_terms) (sym c.self.view_is) c.requires.room)

pub invariant_of-self : goal.invariant_of-self
invariant_of-self c =
    let s = c.self.inside in
    let place : c.len-first.result ≡ length c.self.inside.words.items = search rules in
    elim (either-way c.push_entries.result c.push_entries.ensures.ok c.push_entries.ensures.err) [
      | inl more ↦ subst (IsKept s.format s.documents s.words.items) (sym (more ∙ ap (λ p. s.directory.items ++ repeated c.args.count (empty_entry p)) place)) (kept (goal.at.invariant_of-self c).After-push_entries).kept
      | inr same ↦ subst (IsKept s.format s.documents s.words.items) (sym same) c.self.invariant
    ]

pub returns-clause-ok : goal.returns-clause-ok
returns-clause-ok c =
    let s = c.self.inside in
    let place : c.len-first.result ≡ length c.self.inside.words.items = search rules in
    on_ok_weaker c.push_entries.result
    (λ more. (λ t. record { format = s.format; documents = s.documents; words = drop 2 s.words.items; directory = (more ∙ ap (λ p. s.directory.items ++ repeated c.args.count (empty_entry p)) place) t })
    ∙ (kept (goal.at.returns-clause-ok c).After-push_entries).is ∙ ap (λ b. with_empty_plain_lists b c.args.count) c.self.view_is) c.push_entries.ensures.ok
