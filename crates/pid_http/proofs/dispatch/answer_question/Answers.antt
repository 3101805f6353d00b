use Rattle.std.proofs.Common.{◌≡◌, ℕ, List, Option, refl, ap, map, rules}
use Rattle.std.specs.Prelude.{Vec}
use Rattle.std.specs.declared.alloc.Global.{Global}
use Rattle.pid_file.specs.declared.path.Path.{Path}
use Rattle.pid_moderation.specs.ChangePages.{ChangePage, changes_in, page_of, start_text}
use Rattle.pid_moderation.specs.History.{History}
use Rattle.pid_moderation.specs.PendingPages.{pending_in, told_of}
use Rattle.pid_moderation.specs.QueuePages.{queue_in, queued_of}
use Rattle.pid_moderation.specs.RegistryStatus.{registry_status_of, status_of_registry}
use Rattle.pid_moderation.specs.RemarkPages.{remark_page_in, remark_page_of}
use Rattle.pid_moderation.specs.SubmissionPages.{ListingPage, submission_page_of}
use Rattle.pid_service_laws.specs.Searching.{sought_page}
use Rattle.pid_moderation.specs.Views.{views_of}
use Rattle.pid_moderation.specs.declared.lists.Pending.{Pending}
use Rattle.pid_moderation.specs.declared.lists.Queued.{Queued}
use Rattle.pid_moderation.specs.declared.lists.TheConstants.{PAGE}
use Rattle.pid_http.specs.Api.ItemAnswers.{changes_data, changes_text}
use Rattle.pid_http.specs.Api.Replying.{list_answer, shown_answer}
use Rattle.pid_http.specs.Api.SubmissionAnswers.{pending_data, pending_line, queued_data, queued_line, remarks_data, remarks_text, submissions_data, submissions_text}
use Rattle.pid_http.specs.Api.StatusAnswers.{status_data, status_text}
use Rattle.pid_http.specs.declared.api.question.Question.TheVariants as questions
use Rattle.pid_http.specs.declared.api.route_table.Pages.TheVariants as pages
use Rattle.pid_http.specs.declared.api.route_table.Whole.TheVariants as wholes
use Rattle.pid_http.proofs.Meeting.{if_there_met, question_met, replied, shows, shows_there}
use Rattle.pid_http.proofs.dispatch.answer_question.Goals as goal

pub returns-in-Read : goal.returns-in-Read
returns-in-Read g c = rw c.in-Read.is c.read.ensures

pub returns-in-Children : goal.returns-in-Children
returns-in-Children g c = rw c.in-Children.is c.children.ensures

pub returns-in-Submission : goal.returns-in-Submission
returns-in-Submission g c = rw c.in-Submission.is c.submission.ensures

pub returns-in-Remarks : goal.returns-in-Remarks
returns-in-Remarks g c =
    let format = c.args.format in
    rw c.in-Remarks.is (replied _ _ _ _ _ _ c.found_reply-in-Remarks.ensures (if_there_met _ g.met.R.RegistryCalls.lives _ _ _ _ _ _ _ _
    (shows_there format (shown_answer remarks_data remarks_text format) remark_page_of (λ h. remark_page_in PAGE c.in-Remarks.number c.in-Remarks.after (views_of h)) (questions.Remarks c.in-Remarks.number c.in-Remarks.after) (λ h. refl) refl) c.remarks.ensures))

pub returns-in-Changes : goal.returns-in-Changes
returns-in-Changes g c =
    let format = c.args.format in
    let page : History → Option Path → ChangePage = λ h after. changes_in PAGE c.in-Changes.since (start_text after) (views_of h) in
    rw c.in-Changes.is (replied _ _ _ _ _ _ c.found_reply-in-Changes.ensures (question_met _ g.met.R.RegistryCalls.lives _ _ _ _ _ _ _
    (shows format (shown_answer changes_data changes_text format) page_of (λ h. page h _) (questions.Changes c.in-Changes.since c.in-Changes.after) (λ h. ap (λ after. shown_answer changes_data changes_text format (page h after)) c.as_ref.ensures.value) refl) c.changes.ensures))

pub returns-in-Lookup : goal.returns-in-Lookup
returns-in-Lookup g c = rw c.in-Lookup.is (c.lookup.ensures c.args.format)

pub returns-in-Rank : goal.returns-in-Rank
returns-in-Rank g c = rw c.in-Rank.is c.rank.ensures

pub returns-in-Submissions : goal.returns-in-Submissions
returns-in-Submissions g c =
    let format = c.args.format in
    let page : History → Option Path → Option (List ℕ) → ListingPage = λ h path author. sought_page (record { path = path; author = author; before = c.in-Submissions.before }) (views_of h) in
    rw c.in-Submissions.is (replied _ _ _ _ _ _ c.found_reply-in-Submissions.ensures (question_met _ g.met.R.RegistryCalls.lives _ _ _ _ _ _ _
    (shows format (shown_answer submissions_data submissions_text format) submission_page_of (λ h. page h _ _) (questions.Submissions c.in-Submissions.path c.in-Submissions.author c.in-Submissions.before)
    (λ h i. shown_answer submissions_data submissions_text format (page h (c.as_ref-in-Submissions.ensures.value i) (c.as_ref-in-Submissions-2.ensures.value i))) refl) (rw c.in-Submissions.is at c.submissions-page.ensures)))

pub returns-in-Whole-Status : goal.returns-in-Whole-Status
returns-in-Whole-Status g c =
    let format = c.args.format in
    let is : c.args.question.now ≡ questions.Whole wholes.Status = search rules in
    rw is (replied _ _ _ _ _ _ c.found_reply.ensures (question_met _ g.met.R.RegistryCalls.lives _ _ _ _ _ _ _
    (shows format (shown_answer status_data status_text format) registry_status_of status_of_registry (questions.Whole wholes.Status) (λ h. refl) refl) c.status.ensures))

pub returns-in-Pages-Pending-default : goal.returns-in-Pages-Pending-default
returns-in-Pages-Pending-default g c =
    let format = c.args.format in
    let after = c.in-Pages-Pending-default.after in
    let is : c.args.question.now ≡ questions.Pages pages.Pending after = search rules in
    rw is (replied _ _ _ _ _ _ c.list_reply.ensures (question_met _ g.met.R.RegistryCalls.lives _ _ _ _ _ _ _
    (shows format (list_answer pending_data pending_line format) (λ (page : Vec Pending Global). map told_of page.items) (λ h. pending_in PAGE after (views_of h)) (questions.Pages pages.Pending after) (λ h. refl) refl) c.pending.ensures))

pub returns-in-Pages-Queue-default : goal.returns-in-Pages-Queue-default
returns-in-Pages-Queue-default g c =
    let format = c.args.format in
    let after = c.in-Pages-Queue-default.after in
    let is : c.args.question.now ≡ questions.Pages pages.Queue after = search rules in
    rw is (replied _ _ _ _ _ _ c.list_reply-in-Pages-Queue-default.ensures (question_met _ g.met.R.RegistryCalls.lives _ _ _ _ _ _ _
    (shows format (list_answer queued_data queued_line format) (λ (page : Vec Queued Global). map queued_of page.items) (λ h. queue_in PAGE after (views_of h)) (questions.Pages pages.Queue after) (λ h. refl) refl) c.queue.ensures))
