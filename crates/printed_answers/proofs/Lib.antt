mod Votes
