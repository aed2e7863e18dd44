use Rattle.std.proofs.Common.{arith, sym, ap, subst, ◌∙◌, ◌≡◌, ◌+◌, ◌-◌, ◌∷◌, length}
use Rattle.collection_model.specs.Collection.{postings_of, IsPostingList}
use Rattle.pef_report.specs.Generated.{gap_of, list_drawn, lists_drawn, state_behind}
use Rattle.pef_report.proofs.Drawn.{drawn-is_list}
use Rattle.pef_report.proofs.Drawing.{postings-length}
use Rattle.pef_report.proofs.Collections.{lists-next, lists-over}
use Rattle.pef_report.proofs.generate.Gen.draw_next.Goals as goal

pub returns-then-self-clause-ended : goal.returns-then-self-clause-ended
returns-then-self-clause-ended c = λ _.
    let g = c.self.inside in
    ap (λ v. v.lists) (sym c.self.view_is) ∙ lists-over g.documents g.next g.state (g.terms - g.next) (omega arith)

pub returns-clause-list : goal.returns-clause-list
returns-clause-list c = λ _.
    let g = c.self.inside in
    let drawn : postings_of c.draw_list.new.docs.items c.draw_list.new.freqs.items ≡ list_drawn g.documents (gap_of g.next) g.state = c.in_ok-state.ensures.list in
    let same_length : length (list_drawn g.documents (gap_of g.next) g.state) ≡ length c.draw_list.new.docs.items =
    ap length (sym drawn) ∙ postings-length c.draw_list.new.docs.items c.draw_list.new.freqs.items c.in_ok-state.ensures.same_length in
    let behind : state_behind g.state (1 + length (list_drawn g.documents (gap_of g.next) g.state)) ≡ c.in_ok-state.state =
    ap (λ k. state_behind g.state (1 + k)) same_length ∙ sym c.in_ok-state.ensures.state in
    ap (λ v. v.lists) (sym c.self.view_is)
    ∙ lists-next g.documents g.next g.state (g.terms - g.next) (g.terms - (g.next + 1)) (omega arith)
    ∙ (λ i. sym drawn i ∷ lists_drawn g.documents (g.next + 1) (behind i) (g.terms - (g.next + 1)))

pub returns-clause-posting_list : goal.returns-clause-posting_list
returns-clause-posting_list c = λ _ format room.
    let g = c.self.inside in
    let over : g.documents ≡ c.args.self.now.documents = ap (λ v. v.documents) c.self.view_is in
    subst (λ n. IsPostingList format n (postings_of c.draw_list.new.docs.items c.draw_list.new.freqs.items)) over
    (subst (IsPostingList format g.documents) (sym c.in_ok-state.ensures.list) (drawn-is_list format (gap_of g.next) g.state g.documents (omega arith)))
