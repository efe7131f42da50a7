mod TwoCopies
